-- What a line asks for, or what is wrong with it.
use Rattle.std.specs.Prelude.{ℕ, ◌+◌, cond, List, [], ◌∷◌, length, drop, ℤ, Some, None, Ok, Err, Option, Result}
use Rattle.std.specs.Option.{ok_or}
use Rattle.chart.specs.declared.side.Side.{Side}
use Rattle.lines.specs.Fields.{fields}
use Rattle.lines.specs.Numerals.{number_of}
use Rattle.lines.specs.Reading.{◌then◌, comment, first, side_of, words_before, words_from}
use Rattle.lines.specs.declared.malformed.Malformed.{Malformed}
use Rattle.lines.specs.declared.malformed.Malformed.TheVariants.{UnknownCommand, TooManyFields, NotASide, NotANumber}
use Rattle.commands.specs.declared.command.Command.{Command}
use Rattle.commands.specs.declared.command.Command.TheVariants.{Open, Claim, Close, Show, Enter, Abandon, Ask, Weigh}
use Rattle.commands.specs.declared.name.Name.{Name}
use Rattle.commands.specs.declared.name.Name.TheVariants as name
use Rattle.commands.specs.Names.{name_of}

-- what fields ask for: a command with its words
abbrev pub Reading : Type 0
Reading = List (List ℕ) → Result (Command × List ℤ) Malformed

-- a field, as `says` reads it, and then other fields
abbrev pub a_field : {X : Type 0} → (List ℕ → Option X) → Malformed → (X → Reading) → Reading
a_field says wrong next fs = first says wrong fs then λ x. next x (drop 1 fs)

-- field k, a side or a number
abbrev pub a_side : ℕ → (Side → Reading) → Reading
a_side k = a_field side_of (NotASide k)

abbrev pub a_number : ℕ → (ℕ → Reading) → Reading
a_number k = a_field number_of (NotANumber k)

-- fields k and k + 1, two sections
abbrev pub two_sections : ℕ → (ℕ → ℕ → Reading) → Reading
two_sections k next = a_number k λ s. a_number (k + 1) λ t. next s t

-- the command has no more fields
abbrev pub no_more : Command → Reading
no_more c [] = Ok (c, [])
no_more c (f ∷ fs) = Err TooManyFields

-- each other field of the command is a word
abbrev pub all_words : Command → Reading
all_words c fs = words_from 0 fs then λ ws. Ok (c, ws)

-- the fields that follow the name of a command
abbrev pub command_read : Name → Reading
command_read name.Open = a_side 1 λ x. no_more (Open x)
command_read name.Claim = two_sections 1 λ s t. a_number 3 λ v. no_more (Claim s t v)
command_read name.Close = no_more Close
command_read name.Show = two_sections 1 λ s t. all_words (Show s t)
command_read name.Enter = no_more Enter
command_read name.Abandon = no_more Abandon
command_read name.Ask = two_sections 1 λ s t. no_more (Ask s t)
command_read name.Weigh = a_side 1 λ x. two_sections 2 λ s t. all_words (Weigh x s t)

abbrev pub fields_read : List (List ℕ) → Result (Option (Command × List ℤ)) Malformed
fields_read [] = Ok None
fields_read (f ∷ fs) = cond (comment f) (Ok None) (ok_or (name_of f) UnknownCommand then λ n. command_read n fs then λ c. Ok (Some c))

-- nothing for a line that is passed over; of several things that are wrong, the first in the line
abbrev pub line_read : List ℕ → Result (Option (Command × List ℤ)) Malformed
line_read bs = fields_read (fields bs)

-- an answer of the reader, with the words that it leaves
abbrev pub with_words : Result (Option Command) Malformed → List ℤ → Result (Option (Command × List ℤ)) Malformed
with_words (Ok None) ws = Ok None
with_words (Ok (Some c)) ws = Ok (Some (c, ws))
with_words (Err e) ws = Err e

-- how many words are to be kept: all of the command's, or those before what is wrong
abbrev pub command_words : Result (Command × List ℤ) Malformed → ℕ
command_words (Ok p) = length p.1
command_words (Err e) = words_before e

-- how many words of a line are to be kept: all, or those before what is wrong
abbrev pub line_words : Result (Option (Command × List ℤ)) Malformed → ℕ
line_words (Ok None) = 0
line_words (Ok (Some p)) = length p.1
line_words (Err e) = words_before e
