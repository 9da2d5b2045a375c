-- The transition system that a choice chart of the code stands for.
use Rattle.std.specs.Prelude.{ℕ, ◌/◌, ◌%◌, ◌^◌, Bool, false, ℤ, pos, negsuc, ◌==◌, slice_index}
use Rattle.transitions.specs.System.{System}
use Rattle.choice.specs.declared.charts.Choice.{Choice}

-- the bit of value 2 ^ u of a mask is set
abbrev pub marks : ℕ → ℕ → Bool
marks mask u = mask / 2 ^ u % 2 == 1

-- the word is the number of a section that the mask marks
abbrev pub names_marked : ℕ → ℤ → Bool
names_marked mask (pos u) = marks mask u
names_marked mask (negsuc u) = false

abbrev pub system : Choice → System
system w = record { n = w.n; a = w.a; b = w.b; band = λ s. slice_index w.bands s; leads = λ s u. marks (slice_index w.masks s) u }
