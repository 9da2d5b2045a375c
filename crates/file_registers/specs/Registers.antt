-- What is done with a register over the chart of a file, or over two.
use Rattle.std.specs.Prelude.{◌≡◌, ℕ, List, ℤ, Result}
use Rattle.chart.specs.declared.side.Side.{Side}
use Rattle.chart.specs.declared.kind.Chart.{Ghosts}
use Rattle.history.specs.declared.refusal.Refusal.{Refusal}
use Rattle.history.specs.Calls.{Call, Answer}
use Rattle.history.specs.Rules.{Step, over, side_of}
use Rattle.history.specs.Promises.{KeepsPromise}
use Rattle.register.specs.declared.register.Register.{Register}
use Rattle.register.specs.Held.{chart_of, held, top_of}
use Rattle.file_registers.specs.declared.outcome.Outcome.{Outcome}
use Rattle.file_registers.specs.declared.registers.FileRegister.{FileRegister}
use Rattle.file_registers.specs.declared.registers.FileRegister.TheVariants.{One, Two}
use Rattle.file_registers.specs.Outcomes.{in_numbers, call_outcome, weighing_outcome}

-- of a register over a chart of any kind
module _ {C F : Type 0} {G : Ghosts C F} (r : Register C F G) where
  -- a call is made by the rules, its outcome is told in numbers, and the chart and the top stay
  pub record Plays (c : Call) (o : Outcome) (r' : Register C F G) : Type 0 where
    pub outcome : Result Answer (Refusal F)
    pub tells : in_numbers o ≡ call_outcome (G.meaning (chart_of r)).numbers outcome
    pub rule : Step (G.meaning (chart_of r)) (top_of r) (held r) c outcome (held r')
    pub chart : chart_of r' ≡ chart_of r
    pub top : top_of r' ≡ top_of r

  -- a showing is weighed in the current table of its side, and what comes of it is told in numbers
  abbrev pub Weighs : Side → ℕ → ℕ → List ℤ → Outcome → Type 0
  Weighs side s t ws o = let m = G.meaning (chart_of r) in in_numbers o ≡ weighing_outcome m.numbers (m.weigh side (over (top_of r) (side_of side (held r))) s t ws)

  abbrev pub sections : ℕ
  sections = (G.meaning (chart_of r)).sections

  -- over all histories
  abbrev pub RegisterKeepsPromise : Type 0
  RegisterKeepsPromise = KeepsPromise (G.meaning (chart_of r)) (top_of r) (held r)

abbrev pub ComesTo : FileRegister → Call → Outcome → FileRegister → Type 0
ComesTo (One r) c o (One r') = Plays r c o r'
ComesTo (One r) c o (Two r') = ⊥
ComesTo (Two r) c o (One r') = ⊥
ComesTo (Two r) c o (Two r') = Plays r c o r'

abbrev pub WeighsTo : FileRegister → Side → ℕ → ℕ → List ℤ → Outcome → Type 0
WeighsTo (One r) = Weighs r
WeighsTo (Two r) = Weighs r

abbrev pub Keeps : FileRegister → Type 0
Keeps (One r) = RegisterKeepsPromise r
Keeps (Two r) = RegisterKeepsPromise r

abbrev pub sections_of : FileRegister → ℕ
sections_of (One r) = sections r
sections_of (Two r) = sections r
