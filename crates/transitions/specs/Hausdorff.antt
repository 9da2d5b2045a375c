-- The discounted Hausdorff operator on tables of distances, with no real numbers.
use Rattle.std.specs.Prelude.{◌≡◌, ℕ, ◌*◌, ◌<◌, ◌≤◌, ◌↔◌, true}
use Rattle.chart.specs.Distances.{Distances}
use Rattle.chart.specs.Same.{IsTable}
use Rattle.chart.specs.Supported.{Supported}
use Rattle.chart.specs.Bands.{Judges, parted}
use Rattle.transitions.specs.System.{System, successor}
use Rattle.transitions.specs.Meaning.{means}

-- The discounted Hausdorff distance of the successors of s and t is at most the claim: each successor of the one section
-- has some successor of the other, such that the discounted entry of the two is at most the claim.
pub record HausdorffAtMost (c : System) (d : Distances) (s t claim : ℕ) : Type 0 where
  pub first : (u : ℕ) → successor c s u ≡ true → (v : ℕ) × (successor c t v ≡ true) × (c.a * d.entry u v ≤ c.b * claim)
  pub second : (v : ℕ) → successor c t v ≡ true → (u : ℕ) × (successor c s u ≡ true) × (c.a * d.entry u v ≤ c.b * claim)

-- The operator takes a table to its top at apart pairs, and at a judged pair to that distance. It does not raise the table.
pub record NotRaised (c : System) (d : Distances) : Type 0 where
  pub apart : (s t : ℕ) → s < c.n → t < c.n → parted c.band s t ≡ true → d.entry s t ≡ d.top
  pub judged : (s t : ℕ) → Judges c.n c.band s t → HausdorffAtMost c d s t (d.entry s t)

-- the supported tables are just those that the operator does not raise
abbrev pub SupportedIsNotRaised : System → Type 0
SupportedIsNotRaised c = (d : Distances) → IsTable c.n d → Supported (means c) d ↔ NotRaised c d
