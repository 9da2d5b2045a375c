-- What one pass over the pairs of a pairing finds.
use Rattle.std.specs.Prelude.{◌≡◌, ℕ, ◌<◌, List, length, ℤ, None}
use Rattle.finite.specs.Search.{least}
use Rattle.chart.specs.Distances.{Distances}
use Rattle.transitions.specs.System.{System}
use Rattle.transitions.specs.Pairing.{left, right, paired, cost, bad_word}
use Rattle.choice.specs.View.{marks}
use Rattle.choice.specs.declared.charts.pairing.Gathered.{Gathered}

-- each word names a successor; the sections in a pair on either side, and the cost in the table
pub record Gathers (c : System) (d : Distances) (s t : ℕ) (ws : List ℤ) (g : Gathered) : Type 0 where
  pub good : least (length ws) (bad_word c s t ws) ≡ None
  pub lefts : (u : ℕ) → u < 32 → marks g.left u ≡ paired left ws u
  pub rights : (v : ℕ) → v < 32 → marks g.right v ≡ paired right ws v
  pub most : g.greatest ≡ cost d ws
