-- The indices of the ordered pairs of 32 sections in a list that has their cells row by row, 32 to a row.
use Rattle.std.specs.Prelude.{ℕ, ◌+◌, ◌*◌, cond, ◌&&◌, Some, None, Option, nat_lt}

abbrev pub cell_index : ℕ → ℕ → Option ℕ
cell_index s t = cond (nat_lt s 32 && nat_lt t 32) (Some (s * 32 + t)) None
