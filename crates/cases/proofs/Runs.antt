-- Playing calls by the rules, where the tests on the way are passed.
use Rattle.std.proofs.Common.{◌≡◌, ℕ, ◌<◌, Bool, true, false, not, ◌&&◌, ltb, ◌≢◌, List, [], ◌∷◌, ℤ, Some, None, Ok, Err, Option, Result, refl, arith}
use Rattle.std.proofs.lemmas.Bool.{and_parts, ltb-true, ltb-false, not-true}
use Rattle.chart.specs.declared.side.Side.{Side}
use Rattle.chart.specs.declared.side.Side.TheVariants.{Upper, Lower}
use Rattle.chart.specs.Meaning.{Meaning, Judged}
use Rattle.chart.specs.Starting.{judged_pair}
use Rattle.history.specs.declared.refusal.Refusal.{Refusal}
use Rattle.history.specs.Calls.{Call, Open, Claim, Close, Show, Ask, Answer, Page}
use Rattle.history.specs.Rules.{State, Phase, resting, claiming, showing, Draft, Marks, claims, side_of, weighed_in, Short, Step, Run, rest, turn}
use Rattle.history.proofs.Sound.{Fits}
use Rattle.register.proofs.Steps.{ask_inside, open_resting, claim_fits, close_some, show_fault, show_short, show_answers}

-- ---- what follows from a test that is passed

abbrev pub if_so : {A : Type 0} (b : Bool) → (b ≡ true → Option A) → Option A
if_so true then = then refl
if_so false then = None

abbrev pub either : {A : Type 0} (b : Bool) → (b ≡ true → A) → (b ≡ false → A) → A
either true then else = then refl
either false then else = else refl

abbrev pub if_some : {A : Type 0} (o : Option ℕ) → ((v : ℕ) → o ≡ Some v → Option A) → Option A
if_some None then = None
if_some (Some v) then = then v refl

abbrev pub if_none : {A : Type 0} (o : Option ℕ) → (o ≡ None → Option A) → Option A
if_none None then = then refl
if_none (Some v) then = None

-- ---- the tests

-- whether a value may be claimed beside an entry, over a top
abbrev pub fitting : Side → ℕ → ℕ → ℕ → Bool
fitting Upper top entry v = not (ltb entry v) && not (ltb top v)
fitting Lower top entry v = not (ltb v entry) && not (ltb top v)

abbrev pub short : Side → ℕ → ℕ → Bool
short Upper c v = ltb v c
short Lower c v = ltb c v

pub short_true : (e : Side) (c v : ℕ) → short e c v ≡ true → Short e c v
short_true Upper c v h = ltb-true _ _ h
short_true Lower c v h = ltb-true _ _ h

pub short_false : (e : Side) (c v : ℕ) → short e c v ≡ false → Short e c v → ⊥
short_false Upper c v h s = let k = ltb-false _ _ h in omega arith
short_false Lower c v h s = let k = ltb-false _ _ h in omega arith

pub some_number : (n : ℕ) → ltb 0 n ≡ true → n ≢ 0
some_number n h none = let k = ltb-true _ _ h in omega arith

module _ {F : Type 0} (m : Meaning F) (K : ℕ) where
  pub judged : (s t : ℕ) → judged_pair m s t ≡ true → Judged m s t
  judged s t h =
      let (first, others) = and_parts _ _ h in
      let (second, together) = and_parts _ _ others in
      record { first_in = ltb-true _ _ first; second_in = ltb-true _ _ second; together = not-true _ together }

  abbrev pub inside : ℕ → ℕ → Bool
  inside s t = ltb s m.sections && ltb t m.sections

  pub both : (s t : ℕ) → inside s t ≡ true → (s < m.sections) × (t < m.sections)
  both s t h = let (first, second) = and_parts _ _ h in (ltb-true _ _ first, ltb-true _ _ second)

  pub fits : (e : Side) (f : ℕ → ℕ → ℕ) (s t v : ℕ) → judged_pair m s t ≡ true → fitting e K (f s t) v ≡ true → Fits m K e f s t v
  fits Upper f s t v h k = let (tight, top) = and_parts _ _ k in record { judged = judged s t h; tight = ltb-false _ _ (not-true _ tight); top = ltb-false _ _ (not-true _ top) }
  fits Lower f s t v h k = let (tight, top) = and_parts _ _ k in record { judged = judged s t h; tight = ltb-false _ _ (not-true _ tight); top = ltb-false _ _ (not-true _ top) }

  -- ---- calls

  -- an outcome of a call, and a state after it
  abbrev pub Stepped : State → Call → Type 0
  Stepped σ c = (o : Result Answer (Refusal F)) × (τ : State) × Step m K σ c o τ

  module _ (σ : State) where
    abbrev pub opened : (e : Side) (p : Phase) → σ.phase ≡ p → Option (Stepped σ (Open e))
    opened e resting ph = Some (_, _, open_resting m K σ e ph)
    opened e _ ph = None

    abbrev pub claimed : (s t v : ℕ) (p : Phase) → σ.phase ≡ p → Option (Stepped σ (Claim s t v))
    claimed s t v (claiming e d) ph =
        if_so (judged_pair m s t) λ is_judged.
        if_so (fitting e K (side_of e σ s t) v) λ is_fitting.
        if_none (d s t) λ none.
        let fit = fits e (side_of e σ) s t v is_judged is_fitting in
        Some (_, _, claim_fits m K σ e d ph s t v (fit.judged.first_in, fit.judged.second_in) fit.judged.together none fit)
    claimed s t v _ ph = None

    abbrev pub closed : (p : Phase) → σ.phase ≡ p → Option (Stepped σ Close)
    closed (claiming e d) ph = if_so (ltb 0 (claims d)) λ some. Some (_, _, close_some m K σ e d ph (some_number _ some))
    closed _ ph = None

    abbrev pub asked : (s t : ℕ) → Option (Stepped σ (Ask s t))
    asked s t = if_so (inside s t) λ within. Some (_, _, ask_inside m K σ s t (both s t within))

    abbrev pub weighed : (s t v : ℕ) (ws : List ℤ) (e : Side) (d : Draft) (b : Marks) → σ.phase ≡ showing e d b → inside s t ≡ true → d s t ≡ Some v → b s t ≡ false
        → (r : Result ℕ F) → m.weigh e (weighed_in m K e d σ) s t ws ≡ r → Stepped σ (Show s t ws)
    weighed s t v ws e d b ph within has new (Err f) is = (_, _, show_fault m K σ e d b ph s t ws (both s t within) v has new f is)
    weighed s t v ws e d b ph within has new (Ok c) is =
        either (short e c v)
        (λ below. (_, _, show_short m K σ e d b ph s t ws (both s t within) v has new c is e refl (short_true e c v below)))
        (λ reaches. (_, _, show_answers m K σ e d b ph s t ws (both s t within) v has new c is e _ _ refl (short_false e c v reaches) refl refl))

    abbrev pub showed : (s t : ℕ) (ws : List ℤ) (p : Phase) → σ.phase ≡ p → Option (Stepped σ (Show s t ws))
    showed s t ws (showing e d b) ph =
        if_so (inside s t) λ within.
        if_some (d s t) λ v has.
        either (b s t) (λ again. None) (λ new. Some (weighed s t v ws e d b ph within has new _ refl))
    showed s t ws _ ph = None

    abbrev pub stepped : (c : Call) → Option (Stepped σ c)
    stepped (Open e) = opened e σ.phase refl
    stepped (Claim s t v) = claimed s t v σ.phase refl
    stepped Close = closed σ.phase refl
    stepped (Show s t ws) = showed s t ws σ.phase refl
    stepped (Ask s t) = asked s t
    stepped _ = None

  -- ---- runs

  abbrev pub Ran : State → Type 0
  Ran σ = (h : List (Page F)) × (τ : State) × Run m K σ h τ

  abbrev pub before : (σ : State) (c : Call) (o : Result Answer (Refusal F)) (τ : State) → Step m K σ c o τ → Option (Ran τ) → Option (Ran σ)
  before σ c o τ step None = None
  before σ c o τ step (Some r) = Some (record { call = c; outcome = o } ∷ r.0, r.1, turn step r.2)

  unfoldable pub ran : (σ : State) → List Call → Option (Ran σ)
  ran σ [] = Some ([], σ, rest)
  ran σ (c ∷ cs) = elim (stepped σ c) [ None ↦ None | Some s ↦ before σ c s.0 s.1 s.2 (ran s.1 cs) ]
