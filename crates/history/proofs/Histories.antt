-- A history begins with no page, and goes on by one.
use Rattle.std.proofs.Common.{◌≡◌, ℕ, List, [], ◌∷◌, ◌++◌, Result}
use Rattle.std.proofs.Math.Logic.{∥∥₁_map}
use Rattle.chart.specs.Meaning.{Meaning}
use Rattle.history.specs.declared.refusal.Refusal.{Refusal}
use Rattle.history.specs.Calls.{Call, Answer, Page}
use Rattle.history.specs.Rules.{State, Step, Run, rest, turn, fresh}
use Rattle.history.specs.Promises.{HasHistory}

module _ {F : Type 0} (m : Meaning F) (K : ℕ) where
  then_page : {σ τ ρ : State} {h : List (Page F)} → Run m K σ h τ → (p : Page F) → Step m K τ p.call p.outcome ρ → Run m K σ (h ++ (p ∷ [])) ρ
  then_page rest p step = turn step rest
  then_page (turn first run) p step = turn first (then_page run p step)

  begins : HasHistory m K (fresh m K)
  begins = ∣ ([], rest) ∣₁

  goes_on : {σ τ : State} {c : Call} {o : Result Answer (Refusal F)} → HasHistory m K σ → Step m K σ c o τ → HasHistory m K τ
  goes_on {c = c} {o = o} had step =
      let p : Page F = record { call = c; outcome = o } in
      ∥∥₁_map had (λ (h, run). (h ++ (p ∷ []), then_page run p step))

  pub begun : (J : ℕ) (σ : State) → J ≡ K → σ ≡ fresh m K → HasHistory m J σ
  begun J σ top is = rw (top, is) begins

  pub stepped : {σ τ : State} {c : Call} {o : Result Answer (Refusal F)} (J : ℕ) → J ≡ K → HasHistory m K σ → Step m K σ c o τ → HasHistory m J τ
  stepped J top had step = rw top (goes_on had step)
