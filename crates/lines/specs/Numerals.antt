-- The numbers that fields write.
use Rattle.std.specs.Prelude.{ℕ, ◌+◌, ◌-◌, ◌*◌, cond, List, [], ◌∷◌, ℤ, pos, neg_ℤ, Some, None, Option, ◌==◌, nat_le}
use Rattle.std.specs.Char.{is_ascii_digit}
use Rattle.std.specs.Option.{option_map}

-- the number in base ten that n and then these bytes write, if they are all digits
unfoldable pub digits_after : ℕ → List ℕ → Option ℕ
digits_after n [] = Some n
digits_after n (b ∷ bs) = cond (is_ascii_digit b) (digits_after (n * 10 + (b - 48)) bs) None

-- a numeral is a digit or several
abbrev pub numeral : List ℕ → Option ℕ
numeral [] = None
numeral (b ∷ bs) = digits_after 0 (b ∷ bs)

abbrev pub at_most : ℕ → Option ℕ → Option ℕ
at_most most None = None
at_most most (Some n) = cond (nat_le n most) (Some n) None

-- a number below 2 ^ 32
abbrev pub number_of : List ℕ → Option ℕ
number_of bs = at_most 4294967295 (numeral bs)

-- a signed 32-bit number: a numeral, with a minus in front or none
abbrev pub word_of : List ℕ → Option ℤ
word_of [] = None
word_of (b ∷ bs) = cond (b == 45) (option_map (λ n. neg_ℤ (pos n)) (at_most 2147483648 (numeral bs))) (option_map pos (at_most 2147483647 (numeral (b ∷ bs))))
