-- A history over a chart is one over the chart with its faults as something else, and the other way: over what it tells, with its faults' numbers, and over a value of a type of several kinds.
use Rattle.std.proofs.Common.{◌≡◌, ℕ, List, [], ◌∷◌, ℤ, Ok, Err, Result, refl, ap}
use Rattle.std.proofs.Math.Logic.{∥∥₁_map}
use Rattle.chart.specs.declared.side.Side.{Side}
use Rattle.chart.specs.Carried.{carried}
use Rattle.chart.specs.Distances.{Distances}
use Rattle.chart.specs.Meaning.{Meaning}
use Rattle.chart.specs.Weighing.{fault_as}
use Rattle.chart.proofs.Telling.{told}
use Rattle.history.specs.declared.refusal.Refusal.{Refusal}
use Rattle.history.specs.Refusals.{number}
use Rattle.history.specs.Calls.{Call, Answer, Page}
use Rattle.history.specs.Rules
use Rattle.history.specs.Rules.{State, Ground, Effect, Step, refuses, accepts, Run, rest, turn, fresh}
use Rattle.history.specs.Promises.{Always, HasHistory}

module _ {F G : Type 0} (to : F → G) (numbers : G → List ℕ) (valid : Side → Distances → ℕ → ℕ → List ℤ → Type 0)
    (shows : Side → Distances → ℕ → ℕ → List ℤ → ℕ → Type 0) (m : Meaning F) (K : ℕ) where
  -- the chart with its faults as something else; which showings are valid has no part in a history
  abbrev other : Meaning G
  other = record {
    sections = m.sections;
    numerator = m.numerator;
    denominator = m.denominator;
    longest = m.longest;
    apart = m.apart;
    valid = valid;
    shows = shows;
    weigh = λ side d s t ws. fault_as to (m.weigh side d s t ws);
    numbers = numbers;
  }

  -- what a fault comes from, and an answer
  fault_from : (r : Result ℕ F) (g : G) → fault_as to r ≡ Err g → (f : F) × (r ≡ Err f)
  fault_from (Ok c) g e = absurd (cc)
  fault_from (Err f) g e = (f, refl)

  answer_from : (r : Result ℕ F) (c : ℕ) → fault_as to r ≡ Ok c → r ≡ Ok c
  answer_from (Ok x) c e = cc
  answer_from (Err f) c e = absurd (cc)

  -- a ground over the chart is one over the other
  ground_to : {σ : State} {c : Call} {r : Refusal F} → Ground m K σ c r → (q : Refusal G) × Ground other K σ c q × (number q ≡ number r)
  ground_to (Rules.open_20 h) = (_, Rules.open_20 h, refl)
  ground_to (Rules.claim_30 h) = (_, Rules.claim_30 h, refl)
  ground_to (Rules.claim_31 h) = (_, Rules.claim_31 h, refl)
  ground_to (Rules.claim_32 h) = (_, Rules.claim_32 h, refl)
  ground_to (Rules.claim_33 e d w ph is) = (_, Rules.claim_33 e d w ph is, refl)
  ground_to (Rules.claim_34 e d ph unfit) = (_, Rules.claim_34 e d ph unfit, refl)
  ground_to (Rules.close_40 h) = (_, Rules.close_40 h, refl)
  ground_to (Rules.close_41 e d ph none) = (_, Rules.close_41 e d ph none, refl)
  ground_to (Rules.show_50 h) = (_, Rules.show_50 h, refl)
  ground_to (Rules.show_51 h) = (_, Rules.show_51 h, refl)
  ground_to (Rules.show_52 e d b ph is) = (_, Rules.show_52 e d b ph is, refl)
  ground_to (Rules.show_53 e d b ph is) = (_, Rules.show_53 e d b ph is, refl)
  ground_to (Rules.show_54 e d b f ph w) = (_, Rules.show_54 e d b (to f) ph (ap (fault_as to) w), refl)
  ground_to (Rules.show_55 e d b v c ph is w short) = (_, Rules.show_55 e d b v c ph is (ap (fault_as to) w) short, refl)
  ground_to (Rules.enter_60 h) = (_, Rules.enter_60 h, refl)
  ground_to (Rules.enter_61 e d b s t v ph hs ht is none first) = (_, Rules.enter_61 e d b s t v ph hs ht is none first, refl)
  ground_to (Rules.abandon_70 h) = (_, Rules.abandon_70 h, refl)
  ground_to (Rules.ask_80 h) = (_, Rules.ask_80 h, refl)

  -- and the other way
  ground_from : {σ : State} {c : Call} {q : Refusal G} → Ground other K σ c q → (r : Refusal F) × Ground m K σ c r × (number r ≡ number q)
  ground_from (Rules.open_20 h) = (_, Rules.open_20 h, refl)
  ground_from (Rules.claim_30 h) = (_, Rules.claim_30 h, refl)
  ground_from (Rules.claim_31 h) = (_, Rules.claim_31 h, refl)
  ground_from (Rules.claim_32 h) = (_, Rules.claim_32 h, refl)
  ground_from (Rules.claim_33 e d w ph is) = (_, Rules.claim_33 e d w ph is, refl)
  ground_from (Rules.claim_34 e d ph unfit) = (_, Rules.claim_34 e d ph unfit, refl)
  ground_from (Rules.close_40 h) = (_, Rules.close_40 h, refl)
  ground_from (Rules.close_41 e d ph none) = (_, Rules.close_41 e d ph none, refl)
  ground_from (Rules.show_50 h) = (_, Rules.show_50 h, refl)
  ground_from (Rules.show_51 h) = (_, Rules.show_51 h, refl)
  ground_from (Rules.show_52 e d b ph is) = (_, Rules.show_52 e d b ph is, refl)
  ground_from (Rules.show_53 e d b ph is) = (_, Rules.show_53 e d b ph is, refl)
  ground_from (Rules.show_54 e d b f ph w) = let (x, is) = fault_from _ f w in (_, Rules.show_54 e d b x ph is, refl)
  ground_from (Rules.show_55 e d b v c ph is w short) = (_, Rules.show_55 e d b v c ph is (answer_from _ c w) short, refl)
  ground_from (Rules.enter_60 h) = (_, Rules.enter_60 h, refl)
  ground_from (Rules.enter_61 e d b s t v ph hs ht is none first) = (_, Rules.enter_61 e d b s t v ph hs ht is none first, refl)
  ground_from (Rules.abandon_70 h) = (_, Rules.abandon_70 h, refl)
  ground_from (Rules.ask_80 h) = (_, Rules.ask_80 h, refl)

  effect_to : {σ τ : State} {c : Call} {a : Answer} → Effect m K σ c a τ → Effect other K σ c a τ
  effect_to Rules.opens = Rules.opens
  effect_to (Rules.claimed e d ph) = Rules.claimed e d ph
  effect_to (Rules.closes e d ph) = Rules.closes e d ph
  effect_to (Rules.shown e d b ph) = Rules.shown e d b ph
  effect_to (Rules.enters e d b ph) = Rules.enters e d b ph
  effect_to Rules.abandons = Rules.abandons
  effect_to Rules.asks = Rules.asks

  effect_from : {σ τ : State} {c : Call} {a : Answer} → Effect other K σ c a τ → Effect m K σ c a τ
  effect_from Rules.opens = Rules.opens
  effect_from (Rules.claimed e d ph) = Rules.claimed e d ph
  effect_from (Rules.closes e d ph) = Rules.closes e d ph
  effect_from (Rules.shown e d b ph) = Rules.shown e d b ph
  effect_from (Rules.enters e d b ph) = Rules.enters e d b ph
  effect_from Rules.abandons = Rules.abandons
  effect_from Rules.asks = Rules.asks

  step_to : {σ τ : State} {c : Call} {o : Result Answer (Refusal F)} → Step m K σ c o τ → (o' : Result Answer (Refusal G)) × Step other K σ c o' τ
  step_to (refuses r g least) =
      let (q, ground, same) = ground_to g in
      (Err q, refuses q ground (λ p g'. let (x, from, alike) = ground_from g' in rw (same, ← alike) (least x from)))
  step_to (accepts none effect) = (_, accepts (λ q g. let (x, from, _) = ground_from g in none x from) (effect_to effect))

  step_from : {σ τ : State} {c : Call} {o : Result Answer (Refusal G)} → Step other K σ c o τ → (o' : Result Answer (Refusal F)) × Step m K σ c o' τ
  step_from (refuses q g least) =
      let (r, ground, same) = ground_from g in
      (Err r, refuses r ground (λ p g'. let (x, to, alike) = ground_to g' in rw (same, ← alike) (least x to)))
  step_from (accepts none effect) = (_, accepts (λ r g. let (x, to, _) = ground_to g in none x to) (effect_from effect))

  run_to : {σ τ : State} {h : List (Page F)} → Run m K σ h τ → (h' : List (Page G)) × Run other K σ h' τ
  run_to rest = ([], rest)
  run_to (turn {p = p} step run) =
      let (o, first) = step_to step in
      let (pages, on) = run_to run in
      (record { call = p.call; outcome = o } ∷ pages, turn first on)

  run_from : {σ τ : State} {h : List (Page G)} → Run other K σ h τ → (h' : List (Page F)) × Run m K σ h' τ
  run_from rest = ([], rest)
  run_from (turn {p = p} step run) =
      let (o, first) = step_from step in
      let (pages, on) = run_from run in
      (record { call = p.call; outcome = o } ∷ pages, turn first on)

module _ {F : Type 0} (m : Meaning F) (K : ℕ) where
  pub told_history : {σ : State} → HasHistory m K σ → HasHistory (told m) K σ
  told_history had = ∥∥₁_map had (λ (h, run). run_to m.numbers (told m).numbers (told m).valid (told m).shows m K run)

module _ {F G : Type 0} (wrap : F → G) (numbers : G → List ℕ) (m : Meaning F) (P : ℕ → State → Type 0) where
  -- what holds in every state of the registers of a chart holds of the chart as a value of a type of several kinds
  pub always_carried : Always m (λ K σ h. P K σ) → Always (carried wrap numbers m) (λ K σ h. P K σ)
  always_carried always K k σ h run =
      let (pages, from) = run_from wrap numbers m.valid m.shows m K run in
      always K k σ pages from
