-- How a command is written.
use Rattle.std.specs.Prelude.{List, ℕ, ◌++◌, codes, decimal}
use Rattle.chart.specs.Texts.{side_text}
use Rattle.commands.specs.declared.command.Command.{Command}
use Rattle.commands.specs.declared.command.Command.TheVariants.{Open, Claim, Close, Show, Enter, Abandon, Ask, Weigh}

-- the command's name and numbers, without a showing's words
abbrev pub command_text : Command → List ℕ
command_text (Open side) = codes "open " ++ side_text side
command_text (Claim s t v) = codes "claim " ++ (decimal s ++ (codes " " ++ (decimal t ++ (codes " " ++ decimal v))))
command_text Close = codes "close"
command_text (Show s t) = codes "show " ++ (decimal s ++ (codes " " ++ decimal t))
command_text Enter = codes "enter"
command_text Abandon = codes "abandon"
command_text (Ask s t) = codes "ask " ++ (decimal s ++ (codes " " ++ decimal t))
command_text (Weigh side s t) = codes "weigh " ++ (side_text side ++ (codes " " ++ (decimal s ++ (codes " " ++ decimal t))))
