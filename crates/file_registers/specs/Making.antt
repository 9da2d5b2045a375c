-- What becomes of the bytes of a chart file, or of two, and a number for the top.
use Rattle.std.specs.Prelude.{◌≡◌, ℕ, false, List, Ok, Err, Result}
use Rattle.chart.specs.declared.kind.Chart.{Ghosts}
use Rattle.chart.specs.Tops.{InRange}
use Rattle.files.specs.declared.refusal.ReadRefusal.{ReadRefusal}
use Rattle.files.specs.Kinds.{kind_named}
use Rattle.history.specs.Rules.{fresh}
use Rattle.joint.specs.Fitting.{fit}
use Rattle.register.specs.declared.register.Register.{Register}
use Rattle.register.specs.Held.{chart_of, held, top_of}
use Rattle.sittings.specs.Making.{made}
use Rattle.file_charts.specs.declared.charts.FileChart.{FileChart}
use Rattle.file_charts.specs.Meaning.{means}
use Rattle.file_charts.specs.Reading.{ReadAs}
use Rattle.file_charts.specs.Registers.{RegistersBound, SettledIsDistance, EntriesBoundDistance}
use Rattle.file_registers.specs.declared.registers.FileRegister.{FileRegister}
use Rattle.file_registers.specs.declared.registers.FileRegister.TheVariants.{One, Two}
use Rattle.file_registers.specs.declared.registers.NotMade.{NotMade}
use Rattle.file_registers.specs.declared.registers.NotMade.TheVariants.{First, Second, Top, Misfit}
use Rattle.file_registers.specs.Registers.{RegisterKeepsPromise}

-- a file with these bytes holds the chart, or is refused
abbrev pub Holds : List ℕ → FileChart → Type 0
Holds bs c = ReadAs (kind_named bs) bs (Ok c)

abbrev pub Refuses : List ℕ → ReadRefusal → Type 0
Refuses bs e = ReadAs (kind_named bs) bs (Err e)

-- a fresh register over the top
pub record IsFresh {C F : Type 0} {G : Ghosts C F} (r : Register C F G) (K : ℕ) : Type 0 where
  pub in_range : InRange K
  pub top : top_of r ≡ K
  pub state : held r ≡ fresh (G.meaning (chart_of r)) K
  pub promise : RegisterKeepsPromise r

-- why no register is made of one chart: the first of these
abbrev pub NoneOfOne : List ℕ → ℕ → NotMade → Type 0
NoneOfOne bs top (First e) = Refuses bs e
NoneOfOne bs top (Second e) = ⊥
NoneOfOne bs top Top = (c : FileChart) × Holds bs c × (InRange top → ⊥)
NoneOfOne bs top Misfit = ⊥

abbrev pub MadeOfOne : List ℕ → ℕ → Result FileRegister NotMade → Type 0
MadeOfOne bs top (Ok (One r)) = Holds bs (chart_of r) × IsFresh r top
MadeOfOne bs top (Ok (Two r)) = ⊥
MadeOfOne bs top (Err e) = NoneOfOne bs top e

-- and of two
abbrev pub NoneOfTwo : List ℕ → List ℕ → ℕ → NotMade → Type 0
NoneOfTwo bs cs top (First e) = Refuses bs e
NoneOfTwo bs cs top (Second e) = (c : FileChart) × Holds bs c × Refuses cs e
NoneOfTwo bs cs top Top = (c d : FileChart) × Holds bs c × Holds cs d × (InRange top → ⊥)
NoneOfTwo bs cs top Misfit = (c d : FileChart) × Holds bs c × Holds cs d × InRange top × (fit (means c) (means d) ≡ false)

abbrev pub MadeOfTwo : List ℕ → List ℕ → ℕ → Result FileRegister NotMade → Type 0
MadeOfTwo bs cs top (Ok (One r)) = ⊥
MadeOfTwo bs cs top (Ok (Two r)) = (c d : FileChart) × Holds bs c × Holds cs d × (made (fit (means c) (means d)) c d ≡ Ok (chart_of r)) × IsFresh r top
MadeOfTwo bs cs top (Err e) = NoneOfTwo bs cs top e

-- In every register over the chart, after every history, the entries bound the distance, and a settled one is the distance.
-- Of two sittings nothing is said here: the field has an operator for each of the two charts, and none for both.
abbrev pub DistanceIsBounded : FileRegister → Type 0
DistanceIsBounded (One r) = RegistersBound (chart_of r) × SettledIsDistance (chart_of r) × EntriesBoundDistance (chart_of r)
DistanceIsBounded (Two r) = Unit {0}
