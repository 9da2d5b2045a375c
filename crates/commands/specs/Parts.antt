-- What follows a command's own fields.
use Rattle.std.specs.Prelude.{Bool, true, false, cond}
use Rattle.commands.specs.declared.command.Command.{Command}
use Rattle.commands.specs.declared.command.Command.TheVariants.{Open, Claim, Close, Show, Enter, Abandon, Ask, Weigh}
use Rattle.commands.specs.Reading.{Reading, no_more, all_words}

abbrev pub takes_words : Command → Bool
takes_words (Open x) = false
takes_words (Claim s t v) = false
takes_words Close = false
takes_words (Show s t) = true
takes_words Enter = false
takes_words Abandon = false
takes_words (Ask s t) = false
takes_words (Weigh x s t) = true

-- what follows the command's own fields: words, or nothing
abbrev pub tail : Command → Reading
tail c = cond (takes_words c) (all_words c) (no_more c)
