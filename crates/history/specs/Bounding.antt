-- The tables that bound from above what potentials show.
use Rattle.std.specs.Prelude.{◌≡◌, ℕ, ◌+◌, ◌*◌, ◌<◌, ◌≤◌, true, List, ℤ}
use Rattle.chart.specs.declared.side.Side.TheVariants.{Lower}
use Rattle.chart.specs.Distances.{Distances}
use Rattle.chart.specs.Laws.{Within}
use Rattle.chart.specs.Meaning.{Meaning, Judged, Shown}

-- Apart pairs stand at the top. At each judged pair with an entry below the top: whatever the table l and its top,
-- if no entry of l is above that of e by more than k, then what potentials show in l is above the entry of e by no more than the discount of k.
pub record Bounding {F : Type 0} (m : Meaning F) (e : Distances) : Type 0 where
  pub top_least : 1 ≤ e.top
  pub apart : (s t : ℕ) → s < m.sections → t < m.sections → m.apart s t ≡ true → e.entry s t ≡ e.top
  pub holds : (s t : ℕ) → Judged m s t → e.entry s t < e.top
      → (l : Distances) (potentials : List ℤ) (x k : ℕ) → Shown m Lower l s t potentials x → Within m.sections l e k
      → m.denominator * (x * e.top) ≤ m.denominator * (e.entry s t * l.top) + m.numerator * k
