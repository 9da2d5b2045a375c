-- Rows of numbers; what is outside counts as 0.
use Rattle.std.specs.Prelude.{ℕ, List, [], slice_index, slice_index_or}

abbrev pub entry_at : List (List ℕ) → ℕ → ℕ → ℕ
entry_at rows s u = slice_index (slice_index_or rows s []) u
