-- What every register over a choice chart promises of the distance, with no real numbers.
use Rattle.std.specs.Prelude.{◌≡◌, ℕ, ◌*◌, ◌<◌, ◌≤◌}
use Rattle.chart.specs.Bands.{Judges}
use Rattle.chart.specs.Distances.{Distances}
use Rattle.chart.specs.Same.{IsTable}
use Rattle.history.specs.Rules.{State, over}
use Rattle.history.specs.Promises.{Always, Below}
use Rattle.transitions.specs.System.{System}
use Rattle.transitions.specs.Meaning.{means}
use Rattle.transitions.specs.Hausdorff.{NotRaised}

-- In the state σ of a register over the top K: the discounted Hausdorff operator does not raise the upper table,
-- and no lower entry stands for a greater distance than the entry of a table that the operator does not raise.
pub record Bounds (c : System) (K : ℕ) (σ : State) : Type 0 where
  pub upper : NotRaised c (over K σ.upper)
  pub lower : (e : Distances) → IsTable c.n e → NotRaised c e → Below c.n (over K σ.lower) e

-- in every register over the chart, over every top and after every history
abbrev pub RegistersBound : System → Type 0
RegistersBound c = Always (means c) (λ K σ h. Bounds c K σ)

-- x / K is the distance of s and t: the least value at (s, t) of the tables that the operator does not raise
pub record Distance (c : System) (s t x K : ℕ) : Type 0 where
  pub top_least : 1 ≤ K
  pub attained : (e : Distances) × IsTable c.n e × NotRaised c e × (e.entry s t * K ≡ x * e.top)
  pub least : (e : Distances) → IsTable c.n e → NotRaised c e → x * e.top ≤ e.entry s t * K

-- at a judged pair whose two entries are equal, they are the distance
abbrev pub SettlesAtDistance : System → ℕ → State → Type 0
SettlesAtDistance c K σ = (s t : ℕ) → Judges c.n c.band s t → σ.lower s t ≡ σ.upper s t → Distance c s t (σ.upper s t) K

-- at every pair of sections no lower entry is above the distance, and no upper one below it
abbrev pub BoundsDistance : System → ℕ → State → Type 0
BoundsDistance c K σ = (s t x J : ℕ) → s < c.n → t < c.n → Distance c s t x J → (σ.lower s t * J ≤ x * K) × (x * K ≤ σ.upper s t * J)

-- and each of the two in every register over the chart, over every top and after every history
abbrev pub SettledIsDistance : System → Type 0
SettledIsDistance c = Always (means c) (λ K σ h. SettlesAtDistance c K σ)

abbrev pub EntriesBoundDistance : System → Type 0
EntriesBoundDistance c = Always (means c) (λ K σ h. BoundsDistance c K σ)
