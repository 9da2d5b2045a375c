-- What a command makes of a register.
use Rattle.std.specs.Prelude.{◌≡◌, ℕ, List, ℤ, Result}
use Rattle.chart.specs.Meaning.{Meaning}
use Rattle.history.specs.declared.refusal.Refusal.{Refusal}
use Rattle.history.specs.Calls
use Rattle.history.specs.Rules.{State, Step, over, side_of}
use Rattle.commands.specs.declared.command.Command.{Command}
use Rattle.commands.specs.declared.command.Command.TheVariants.{Open, Claim, Close, Show, Enter, Abandon, Ask, Weigh}
use Rattle.script.specs.declared.answer.Answer.{Answer}
use Rattle.script.specs.declared.rejection.Rejection.{Rejection}
use Rattle.script.specs.Answers.{answered, weighed}

module _ {F : Type 0} (m : Meaning F) (K : ℕ) (σ : State) where
  -- the call is made, and comes to r
  abbrev pub ComesTo : Calls.Call → Result Answer (Rejection F) → State → Type 0
  ComesTo c r τ = (o : Result Calls.Answer (Refusal F)) × (r ≡ answered o) × Step m K σ c o τ

  -- a call is made; a showing is weighed in the current table of its side, and nothing changes
  abbrev pub Plays : Command → List ℤ → Result Answer (Rejection F) → State → Type 0
  Plays (Open side) ws r τ = ComesTo (Calls.Open side) r τ
  Plays (Claim s t v) ws r τ = ComesTo (Calls.Claim s t v) r τ
  Plays Close ws r τ = ComesTo Calls.Close r τ
  Plays (Show s t) ws r τ = ComesTo (Calls.Show s t ws) r τ
  Plays Enter ws r τ = ComesTo Calls.Enter r τ
  Plays Abandon ws r τ = ComesTo Calls.Abandon r τ
  Plays (Ask s t) ws r τ = ComesTo (Calls.Ask s t) r τ
  Plays (Weigh side s t) ws r τ = (r ≡ weighed (m.weigh side (over K (side_of side σ)) s t ws)) × (τ ≡ σ)
