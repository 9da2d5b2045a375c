-- A history tells whether the register rests.
use Rattle.std.proofs.Common.{◌≡◌, ℕ, ◌≢◌, ◌⊎◌, ◌↔◌, List, Ok, refl, inl, inr, arith}
use Rattle.chart.specs.Meaning.{Meaning}
use Rattle.history.specs.Calls.{Call, Answer, Page}
use Rattle.history.specs.Rules
use Rattle.history.specs.Rules.{State, Phase, resting, Draft, written, Effect, Step, refuses, accepts, Run, rest, turn}
use Rattle.history.specs.Promises.{Always, Opens, Ends, SomeEnds, EachEnded}

-- what a page does to rest, from the phase x to the phase y
data Turns {F : Type 0} (p : Page F) (x y : Phase) : Type 0 where
  ended : Ends p → y ≡ resting → Turns p x y
  opened : Opens p → y ≢ resting → Turns p x y
  kept : (Ends p → ⊥) → (Opens p → ⊥) → (x ≡ resting ↔ y ≡ resting) → Turns p x y

module _ {F : Type 0} (m : Meaning F) (K : ℕ) where
  effect_turns : {σ : State} {c : Call} {a : Answer} {τ : State} → Effect m K σ c a τ → Turns {F = F} (record { call = c; outcome = Ok a }) σ.phase τ.phase
  effect_turns (Rules.opens {e}) = opened (record { side = e; is_open = refl; accepted = (_, refl) }) (λ h. absurd (cc))
  effect_turns (Rules.claimed e d ph) = kept (grind arith) (grind arith) (grind arith)
  effect_turns (Rules.closes e d ph) = kept (grind arith) (grind arith) (grind arith)
  effect_turns (Rules.shown e d b ph) = kept (grind arith) (grind arith) (grind arith)
  effect_turns (Rules.enters e d b ph) = ended (record { is_end = inl refl; accepted = (_, refl) }) (grind arith)
  effect_turns Rules.abandons = ended (record { is_end = inr refl; accepted = (_, refl) }) refl
  effect_turns Rules.asks = kept (grind arith) (grind arith) (grind arith)

  step_turns : {σ : State} {p : Page F} {τ : State} → Step m K σ p.call p.outcome τ → Turns p σ.phase τ.phase
  step_turns (refuses r g least) = kept (grind arith) (grind arith) (grind arith)
  step_turns (accepts ok f) = effect_turns f

  run_rests : {σ : State} {h : List (Page F)} {τ : State} → Run m K σ h τ → (τ.phase ≡ resting) ↔ (((σ.phase ≡ resting) ⊎ SomeEnds h) × EachEnded h)
  run_rests rest = grind arith
  run_rests (turn {ps = h} step run) = join h (step_turns step) (run_rests run)
    where
      join : {p : Page F} (h : List (Page F)) {x y z : Phase} → Turns p x y → (z ≡ resting) ↔ (((y ≡ resting) ⊎ SomeEnds h) × EachEnded h)
          → (z ≡ resting) ↔ (((x ≡ resting) ⊎ (Ends p ⊎ SomeEnds h)) × ((Opens p → SomeEnds h) × EachEnded h))
      join h (ended e r) later = grind arith
      join h (opened o n) later = grind arith
      join h (kept e o same) later = grind arith

pub rests_by_history : {F : Type 0} (m : Meaning F) → Always m (λ K σ h. (σ.phase ≡ resting) ↔ EachEnded h)
rests_by_history m K k σ h run = let both = run_rests m K run in grind arith
