-- Words that name successors.
use Rattle.std.specs.Prelude.{ℕ, Bool, false, ℤ, pos, negsuc}
use Rattle.transitions.specs.System.{System, successor}

-- the word is the number of a successor of s
abbrev pub names : System → ℕ → ℤ → Bool
names c s (pos u) = successor c s u
names c s (negsuc u) = false
