-- What is done through a handle of a register, or of none.
use Rattle.std.specs.Prelude.{◌≡◌, ℕ, Bool, true, false, cond, ◌⊎◌, List, [], ◌∷◌, ℤ, Some, None, Option, Ok, Err, Result}
use Rattle.chart.specs.declared.side.Side.{Side}
use Rattle.chart.specs.declared.side.Side.TheVariants.{Upper, Lower}
use Rattle.history.specs.Calls.{Call}
use Rattle.file_registers.specs.declared.outcome.Outcome.{Outcome}
use Rattle.file_registers.specs.declared.registers.FileRegister.{FileRegister}
use Rattle.file_registers.specs.declared.registers.NotMade.{NotMade}
use Rattle.file_registers.specs.Making.{MadeOfOne, MadeOfTwo}
use Rattle.file_registers.specs.Outcomes.{in_numbers, not_made_numbers}
use Rattle.file_registers.specs.Registers.{ComesTo, WeighsTo, Keeps, sections_of}

-- a side as C names it: whether it is the lower one
abbrev pub side_named : Bool → Side
side_named lower = cond lower Lower Upper

-- a call is made on the handle's register; where it has none, the refusal is 91
abbrev pub Plays : Option FileRegister → Call → Outcome → Option FileRegister → Type 0
Plays None c o None = in_numbers o ≡ (false, 91 ∷ [])
Plays None c o (Some r) = ⊥
Plays (Some r) c o None = ⊥
Plays (Some r) c o (Some r') = ComesTo r c o r'

abbrev pub Weighs : Option FileRegister → Side → ℕ → ℕ → List ℤ → Outcome → Type 0
Weighs None side s t ws o = in_numbers o ≡ (false, 91 ∷ [])
Weighs (Some r) side s t ws o = WeighsTo r side s t ws o

abbrev pub KeepsPromise : Option FileRegister → Type 0
KeepsPromise None = Unit {0}
KeepsPromise (Some r) = Keeps r

-- how many sections the register's chart has; 0 where there is no register
abbrev pub sections : Option FileRegister → ℕ
sections None = 0
sections (Some r) = sections_of r

-- The register that is made stands in the handle in place of what it had, and the answer is how many sections its chart has; if there is no memory for it, the refusal is 90.
-- Where none is made, the refusal tells why. After a refusal the handle has what it had.
abbrev pub Stands : Result FileRegister NotMade → Option FileRegister → Outcome → Option FileRegister → Type 0
Stands (Ok r) before o after = ((in_numbers o ≡ (true, sections_of r ∷ [])) × (after ≡ Some r)) ⊎ ((in_numbers o ≡ (false, 90 ∷ [])) × (after ≡ before))
Stands (Err e) before o after = (in_numbers o ≡ (false, not_made_numbers e)) × (after ≡ before)

-- a register of the chart in a file with these bytes, or of the charts in two, stands in the handle, or none is made
abbrev pub MakesOfOne : List ℕ → ℕ → Option FileRegister → Outcome → Option FileRegister → Type 0
MakesOfOne bs top before o after = (made : Result FileRegister NotMade) × MadeOfOne bs top made × Stands made before o after

abbrev pub MakesOfTwo : List ℕ → List ℕ → ℕ → Option FileRegister → Outcome → Option FileRegister → Type 0
MakesOfTwo bs cs top before o after = (made : Result FileRegister NotMade) × MadeOfTwo bs cs top made × Stands made before o after
