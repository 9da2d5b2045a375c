-- Supported tables.
use Rattle.std.specs.Prelude.{◌≡◌, ℕ, ◌<◌, ◌≤◌, true, List, ℤ}
use Rattle.std.specs.List.{AllByRecursion}
use Rattle.chart.specs.declared.side.Side.TheVariants.{Upper}
use Rattle.chart.specs.Distances.{Distances}
use Rattle.chart.specs.Meaning.{Meaning, Judged, Shown, Word}

-- a table over any top from 1: apart pairs stand at the top, and each judged entry below it is shown in the table by some pairing
pub record Supported {F : Type 0} (m : Meaning F) (d : Distances) : Type 0 where
  pub top_least : 1 ≤ d.top
  pub bounded : (s t : ℕ) → s < m.sections → t < m.sections → d.entry s t ≤ d.top
  pub apart : (s t : ℕ) → s < m.sections → t < m.sections → m.apart s t ≡ true → d.entry s t ≡ d.top
  pub judged : (s t : ℕ) → Judged m s t → d.entry s t < d.top → (ws : List ℤ) × AllByRecursion Word ws × Shown m Upper d s t ws (d.entry s t)
