-- The strongest claim of a showing, and what a weighing answers.
use Rattle.std.specs.Prelude.{ℕ, ◌≤◌, Some, None, Ok, Err, Option, Result}
use Rattle.chart.specs.declared.side.Side.{Side}
use Rattle.chart.specs.declared.side.Side.TheVariants.{Upper, Lower}

-- d asks no more than c: an upper bound that is greater, a lower bound that is smaller
abbrev pub Weaker : Side → ℕ → ℕ → Type 0
Weaker Upper c d = c ≤ d
Weaker Lower c d = d ≤ c

-- the least claim that a pairing shows, the greatest that potentials show
pub record Strongest (side : Side) (shows : ℕ → Type 0) (c : ℕ) : Type 0 where
  pub shown : shows c
  pub others : (d : ℕ) → shows d → Weaker side c d

-- the fault, or else the claim
abbrev pub answer : {F : Type 0} → Option F → ℕ → Result ℕ F
answer (Some f) claim = Err f
answer None claim = Ok claim

-- an answer if the showing is valid, and then its strongest claim; a fault if it is not
abbrev pub Weighs : {F : Type 0} → Side → Type 0 → (ℕ → Type 0) → Result ℕ F → Type 0
Weighs side valid shows (Ok c) = valid × Strongest side shows c
Weighs side valid shows (Err f) = valid → ⊥

-- what is answered, a fault as something else
abbrev pub fault_as : {F G : Type 0} → (F → G) → Result ℕ F → Result ℕ G
fault_as f (Ok c) = Ok c
fault_as f (Err fault) = Err (f fault)
