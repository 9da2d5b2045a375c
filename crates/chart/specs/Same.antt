-- When two values, of the same kind or of two kinds, are the same chart: they tell the same, the longest showing aside, and mean the same.
use Rattle.std.specs.Prelude.{◌≡◌, ℕ, ◌<◌, ◌≤◌, ◌↔◌, List, ℤ}
use Rattle.std.specs.List.{AllByRecursion}
use Rattle.chart.specs.declared.side.Side.{Side}
use Rattle.chart.specs.Distances.{Distances}
use Rattle.chart.specs.Meaning.{Meaning, Judged, Shown, Word}
use Rattle.chart.specs.Tops.{InRange}

-- a table over a top from 1, in which no entry is above the top
pub record IsTable (n : ℕ) (d : Distances) : Type 0 where
  pub top_least : 1 ≤ d.top
  pub bounded : (s t : ℕ) → s < n → t < n → d.entry s t ≤ d.top

-- They mean the same if in every table over a top in range they have the same valid showings for each judged pair, and these show the same claims.
pub record Same {F G : Type 0} (m : Meaning F) (o : Meaning G) : Type 0 where
  pub sections : m.sections ≡ o.sections
  pub numerator : m.numerator ≡ o.numerator
  pub denominator : m.denominator ≡ o.denominator
  pub apart : (s t : ℕ) → s < m.sections → t < m.sections → m.apart s t ≡ o.apart s t
  pub valid : (side : Side) (d : Distances) (s t : ℕ) (ws : List ℤ) → InRange d.top → IsTable m.sections d → Judged m s t → AllByRecursion Word ws → m.valid side d s t ws ↔ o.valid side d s t ws
  pub shown : (side : Side) (d : Distances) (s t : ℕ) (ws : List ℤ) (c : ℕ) → InRange d.top → IsTable m.sections d → Judged m s t → AllByRecursion Word ws → Shown m side d s t ws c ↔ Shown o side d s t ws c
