-- What a table of the code stands for. Outside the sections that it has room for, each entry is its top.
use Rattle.std.specs.Prelude.{ℕ, ◌+◌, ◌*◌, min, cond, ◌&&◌, List, Some, None, Option, nat_lt, slice_index, slice_index_or}
use Rattle.chart.specs.Distances.{Distances}
use Rattle.chart.specs.declared.table.Table.{Table}

-- the cells lie row by row, 32 to a row
abbrev pub cell : List ℕ → ℕ → ℕ → ℕ
cell cells s t = slice_index cells (s * 32 + t)

abbrev pub distances : Table → Distances
distances d = record { top = d.top.value; entry = λ s t. cond (nat_lt s 32 && nat_lt t 32) (cell d.cells s t) d.top.value }

-- the value, at most the top, or the entry where there is none
abbrev pub capped : Option ℕ → ℕ → ℕ → ℕ
capped None entry top = entry
capped (Some v) entry top = min v top

-- a table with values in place of its entries; a value above the top counts as the top
abbrev pub overlaid : List (Option ℕ) → Distances → Distances
overlaid vs d = record { top = d.top; entry = λ s t. cond (nat_lt s 32 && nat_lt t 32) (capped (slice_index_or vs (s * 32 + t) None) (d.entry s t) d.top) d.top }
