-- What the parts of a line say, or what is wrong with them.
use Rattle.std.specs.Prelude.{ℕ, ◌+◌, Bool, true, cond, List, [], ◌∷◌, length, ℤ, Some, None, Ok, Err, codes, Option, Result, ◌==◌, slice_index}
use Rattle.std.specs.Option.{ok_or}
use Rattle.std.specs.Str.{bytes_eq}
use Rattle.chart.specs.declared.side.Side.{Side}
use Rattle.chart.specs.declared.side.Side.TheVariants.{Upper, Lower}
use Rattle.lines.specs.declared.malformed.Malformed.{Malformed}
use Rattle.lines.specs.declared.malformed.Malformed.TheVariants.{TooFewFields, NotAWord}
use Rattle.lines.specs.Numerals.{word_of}

-- the first error of two readings, or what the second makes of the first
infixr 1 ◌then◌
abbrev pub ◌then◌ : {X Y : Type 0} → Result X Malformed → (X → Result Y Malformed) → Result Y Malformed
(Ok x) then f = f x
(Err e) then f = Err e

abbrev pub side_of : List ℕ → Option Side
side_of f = cond (bytes_eq f (codes "upper")) (Some Upper) (cond (bytes_eq f (codes "lower")) (Some Lower) None)

-- what the first of the fields says, as `says` reads it
abbrev pub first : {X : Type 0} → (List ℕ → Option X) → Malformed → List (List ℕ) → Result X Malformed
first says wrong [] = Err TooFewFields
first says wrong (f ∷ fs) = ok_or (says f) wrong

-- the words that the fields write; k is the number of the first
unfoldable pub words_from : ℕ → List (List ℕ) → Result (List ℤ) Malformed
words_from k [] = Ok []
words_from k (f ∷ fs) = ok_or (word_of f) (NotAWord k) then λ w. words_from (k + 1) fs then λ ws. Ok (w ∷ ws)

-- whether a line whose first field is this one is passed over: it begins with #
abbrev pub comment : List ℕ → Bool
comment f = slice_index f 0 == 35

-- whether a line of these fields is passed over: it has none, or begins with #
abbrev pub passed_over : List (List ℕ) → Bool
passed_over [] = true
passed_over (f ∷ fs) = comment f

-- how many words stand before what is wrong
abbrev pub words_before : Malformed → ℕ
words_before (NotAWord k) = k
words_before _ = 0

-- how many words are to be kept: all, or those before what is wrong
abbrev pub words_kept : Result (List ℤ) Malformed → ℕ
words_kept (Ok ws) = length ws
words_kept (Err e) = words_before e
