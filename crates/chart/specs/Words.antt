-- The words of a showing.
use Rattle.std.specs.Prelude.{ℕ, Bool, ◌||◌, List, ℤ, pos, ◌≤ℤ◌, int_lt, slice_index_or}

-- the word at a place; after the last it counts as 0
abbrev pub word : List ℤ → ℕ → ℤ
word ws i = slice_index_or ws i (pos 0)

-- low ≤ z ≤ high, and the test that it is not so
abbrev pub Between : ℤ → ℤ → ℤ → Type 0
Between low high z = (low ≤ℤ z) × (z ≤ℤ high)

abbrev pub outside : ℤ → ℤ → ℤ → Bool
outside low high z = int_lt z low || int_lt high z
