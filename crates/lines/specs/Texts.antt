-- How what is wrong with a line is written.
use Rattle.std.specs.Prelude.{ℕ, List, ◌++◌, codes, decimal}
use Rattle.lines.specs.declared.malformed.Malformed.{Malformed}
use Rattle.lines.specs.declared.malformed.Malformed.TheVariants.{UnknownCommand, TooFewFields, TooManyFields, NotASide, NotANumber, NotAWord, Memory}

abbrev pub malformed_text : Malformed → List ℕ
malformed_text UnknownCommand = codes "the first field is no command"
malformed_text TooFewFields = codes "there are too few fields"
malformed_text TooManyFields = codes "there are too many fields"
malformed_text (NotASide k) = codes "field " ++ (decimal k ++ codes " is neither upper nor lower")
malformed_text (NotANumber k) = codes "field " ++ (decimal k ++ codes " is not a whole number from 0 to 4294967295")
malformed_text (NotAWord k) = codes "word " ++ (decimal k ++ codes " is not a whole number from -2147483648 to 2147483647")
malformed_text Memory = codes "there is no memory for its words"
