-- In every state each call has one outcome.
use Rattle.std.proofs.Common.{◌≡◌, ℕ, suc, ◌<◌, ◌≤◌, cond, eqb, ◌≢◌, ◌⊎◌, List, [], ◌∷◌, ℤ, Some, None, Ok, Err, Option, Result, sym, refl, ap, ◌∙◌, inl, inr, le_antisymm, arith}
use native.Mathlib.Decide.{dec_lt}
use Rattle.std.proofs.lemmas.Bool.{cases_Bool, cases_eq}
use Rattle.chart.specs.declared.side.Side.{Side}
use Rattle.chart.specs.declared.side.Side.TheVariants.{Upper, Lower}
use Rattle.chart.specs.Meaning.{Meaning}
use Rattle.history.specs.declared.refusal.Refusal.{Refusal}
use Rattle.history.specs.declared.refusal.Refusal.TheVariants.{NotResting, NotClaiming, ClaimOutside, ClaimApart, ClaimedTwice, ClaimValue, CloseNotClaiming, NoClaims, NotShowing, ShowOutside, NoClaim, ShownAlready, Fault, Bound, EnterNotShowing, Unshown, Resting, AskOutside}
use Rattle.history.specs.Refusals.{number}
use Rattle.history.specs.Calls.{Call, Open, Claim, Close, Show, Enter, Abandon, Ask, Answer}
use Rattle.history.specs.Rules
use Rattle.history.specs.Rules.{State, Phase, resting, claiming, showing, Draft, Marks, claims, Before, Outside, Unfit, Ground, Effect, Step, refuses, accepts, weighed_in}
use Rattle.history.specs.Promises.{EachCallHasOneOutcome}
use Rattle.history.proofs.Cases.{absurd_bool, cases_option, cases_result, cases_shown, cases_short}
use Rattle.history.proofs.Grounds.{inside, openable, showable, enterable}

-- ---- a refusal that carries nothing is told by its number

abbrev pub bare_ones : {F : Type 0} → List (Refusal F)
bare_ones = NotResting ∷ NotClaiming ∷ ClaimOutside ∷ ClaimApart ∷ ClaimedTwice ∷ ClaimValue ∷ CloseNotClaiming ∷ NoClaims ∷ NotShowing ∷ ShowOutside ∷ NoClaim ∷ ShownAlready ∷ EnterNotShowing ∷ Resting ∷ AskOutside ∷ []

unfoldable pub find : {F : Type 0} → ℕ → List (Refusal F) → Option (Refusal F)
find k [] = None
find k (r ∷ rs) = cond (eqb k (number r)) (Some r) (find k rs)

-- the refusal of that number, if it carries nothing
unfoldable pub numbered : {F : Type 0} → ℕ → Option (Refusal F)
numbered k = find k bare_ones

same_bare : {F : Type 0} (r q : Refusal F) → numbered (number r) ≡ Some r → number r ≡ number q → r ≡ q
unfolding find numbered
same_bare {F} r (Fault f) is e = let n = sym is ∙ ap (numbered {F = F}) e in cc
same_bare {F} r q is e = let n = sym is ∙ ap (numbered {F = F}) e in cc

-- ---- two outcomes of a call are one

either_before : (s t x y : ℕ) → ((s ≡ x) × (t ≡ y)) ⊎ (Before s t x y ⊎ Before x y s t)
either_before s t x y = grind arith

module _ {F : Type 0} (m : Meaning F) (K : ℕ) where
  -- two grounds of one number are one
  one_ground : {σ : State} {c : Call} (r q : Refusal F) → Ground m K σ c r → Ground m K σ c q → number r ≡ number q → r ≡ q
  unfolding find numbered
  one_ground _ _ (Rules.show_54 e d b f ph w) (Rules.show_54 e' d' b' f' ph' w') eq = cc
  one_ground _ _ (Rules.show_55 e d b v c ph is w short) (Rules.show_55 e' d' b' v' c' ph' is' w' short') eq = cc
  one_ground _ _ (Rules.enter_61 e d b s t v ph hs ht is none first) (Rules.enter_61 e' d' b' x y v' ph' hx hy is' none' first') eq =
      elim (either_before s t x y) [
        | inl same ↦ rw (same.0, same.1)
        | inr (inl before) ↦ let shown = first' s t v hs ht before (cc) in absurd (cc)
        | inr (inr before) ↦ let shown = first x y v' hx hy before (cc) in absurd (cc)
      ]
  one_ground r q (Rules.show_54 e d b f ph w) h eq = absurd (omega arith)
  one_ground r q (Rules.show_55 e d b v c ph is w short) h eq = absurd (omega arith)
  one_ground r q (Rules.enter_61 e d b s t v ph hs ht is none first) h eq = absurd (omega arith)
  one_ground r q g h eq = same_bare r q refl eq

  one_effect : {σ : State} {c : Call} {a : Answer} {ρ : State} {a' : Answer} {τ : State} → Effect m K σ c a ρ → Effect m K σ c a' τ → (a ≡ a') × (ρ ≡ τ)
  one_effect Rules.opens Rules.opens = (refl, refl)
  one_effect (Rules.claimed e d ph) (Rules.claimed e' d' ph') = (cc, cc)
  one_effect (Rules.closes e d ph) (Rules.closes e' d' ph') = (cc, cc)
  one_effect (Rules.shown e d b ph) (Rules.shown e' d' b' ph') = (cc, cc)
  one_effect (Rules.enters e d b ph) (Rules.enters e' d' b' ph') = (cc, cc)
  one_effect Rules.abandons Rules.abandons = (refl, refl)
  one_effect Rules.asks Rules.asks = (refl, refl)

  pub one_step : {σ : State} {c : Call} {o : Result Answer (Refusal F)} {ρ : State} {o' : Result Answer (Refusal F)} {τ : State} → Step m K σ c o ρ → Step m K σ c o' τ → (o ≡ o') × (ρ ≡ τ)
  one_step (refuses r g least) (refuses q h least') = (ap Err (one_ground r q g h (le_antisymm (least q h) (least' r g))), refl)
  one_step (refuses r g least) (accepts ok f) = absurd (ok r g)
  one_step (accepts ok f) (refuses q h least) = absurd (ok q h)
  one_step (accepts ok f) (accepts ok' h) = let (p, q) = one_effect f h in (ap Ok p, q)

-- ---- each call has an outcome

cases_claiming : (p : Phase) → ((e : Side) (d : Draft) → p ≢ claiming e d) ⊎ ((e : Side) × (d : Draft) × (p ≡ claiming e d))
cases_claiming (claiming e d) = inr (e, d, refl)
cases_claiming p = inl (λ e d k. absurd (cc))

cases_showing : (p : Phase) → ((e : Side) (d : Draft) (b : Marks) → p ≢ showing e d b) ⊎ ((e : Side) × (d : Draft) × (b : Marks) × (p ≡ showing e d b))
cases_showing (showing e d b) = inr (e, d, b, refl)
cases_showing p = inl (λ e d b k. absurd (cc))

cases_resting : (p : Phase) → (p ≡ resting) ⊎ (p ≢ resting)
cases_resting resting = inl refl
cases_resting p = inr (λ k. absurd (cc))

-- the first and the last number of a call's refusals
abbrev pub span : Call → ℕ × ℕ
span (Open e) = (20, 20)
span (Claim s t v) = (30, 34)
span Close = (40, 41)
span (Show s t ws) = (50, 55)
span Enter = (60, 61)
span Abandon = (70, 70)
span (Ask s t) = (80, 80)

module _ {F : Type 0} (m : Meaning F) (K : ℕ) where
  spanned : {σ : State} {c : Call} {q : Refusal F} → Ground m K σ c q → ((span c).0 ≤ number q) × (number q ≤ (span c).1)
  spanned (Rules.open_20 h) = omega arith
  spanned _ = omega arith

  -- no ground has a number below k
  abbrev pub From : State → Call → ℕ → Type 0
  From σ c k = (q : Refusal F) → Ground m K σ c q → k ≤ number q

  abbrev SomeOutcome : State → Call → Type 0
  SomeOutcome σ c = (o : Result Answer (Refusal F)) × (τ : State) × Step m K σ c o τ

  cases_outside : (s t : ℕ) → Outside m K s t ⊎ ((s < m.sections) × (t < m.sections))
  cases_outside s t = grind arith

  cases_unfit : (e : Side) (σ : State) (s t v : ℕ) → Unfit m K e σ s t v ⊎ (Unfit m K e σ s t v → ⊥)
  cases_unfit Upper σ s t v = grind arith
  cases_unfit Lower σ s t v = grind arith

  module _ (σ : State) where
    module _ (c : Call) where
      pub start : From σ c (span c).0
      start q g = (spanned g).0

      refuse : (r : Refusal F) → Ground m K σ c r → From σ c (number r) → SomeOutcome σ c
      refuse r g low = (Err r, σ, refuses r g low)

      accept : {a : Answer} {τ : State} → From σ c (suc (span c).1) → Effect m K σ c a τ → SomeOutcome σ c
      accept low f = (_, _, accepts (λ q g. omega (arith, low q g, (spanned g).1)) f)

      -- there is no ground for this refusal, which carries nothing
      pub passed : (r : Refusal F) → numbered (number r) ≡ Some r → From σ c (number r) → (Ground m K σ c r → ⊥) → From σ c (suc (number r))
      passed r is low not q g = elim (dec_lt (number r) (number q)) [
        | yes l ↦ l
        | no l ↦ let e : r ≡ q = same_bare r q is (omega (arith, low q g)) in absurd (not (rw (← e) at g))
      ]

      -- the refusal, or what follows it
      check : (r : Refusal F) → numbered (number r) ≡ Some r → From σ c (number r) → (Ground m K σ c r) ⊎ (Ground m K σ c r → ⊥) → (From σ c (suc (number r)) → SomeOutcome σ c) → SomeOutcome σ c
      check r is low (inl g) next = refuse r g low
      check r is low (inr not) next = next (passed r is low not)

    -- where the weighing answers, no ground is a fault
    pub past_faults : (s t c : ℕ) (ws : List ℤ) (e : Side) (d : Draft) (b : Marks) → σ.phase ≡ showing e d b → m.weigh e (weighed_in m K e d σ) s t ws ≡ Ok c → From σ (Show s t ws) 54 → From σ (Show s t ws) 55
    past_faults s t c ws e d b ph w low q (Rules.show_54 e' d' b' f ph' w') = absurd (cc)
    past_faults s t c ws e d b ph w low q g = omega (arith, low q g)

    outcome : (c : Call) → SomeOutcome σ c
    unfolding find numbered
    outcome (Open e) = elim (cases_resting σ.phase) [
      | inl h ↦ (_, _, accepts (openable m K σ e h) Rules.opens)
      | inr n ↦ refuse (Open e) NotResting (Rules.open_20 n) (start (Open e))
    ]
    outcome (Claim s t v) =
        let c : Call = Claim s t v in
        elim (cases_claiming σ.phase) [
          | inl n ↦ refuse c NotClaiming (Rules.claim_30 n) (start c)
          | inr (e, d, ph) ↦
              check c NotClaiming refl (start c) (inr (elim [ Rules.claim_30 n ↦ n e d ph ])) λ low.
              check c ClaimOutside refl low (elim (cases_outside s t) [ inl o ↦ inl (Rules.claim_31 o) | inr i ↦ inr (elim [ Rules.claim_31 o ↦ inside m K i o ]) ]) λ low.
              check c ClaimApart refl low (elim (cases_Bool (m.apart s t)) [ inl a ↦ inl (Rules.claim_32 a) | inr j ↦ inr (elim [ Rules.claim_32 a ↦ absurd_bool a j ]) ]) λ low.
              check c ClaimedTwice refl low (elim (cases_option (d s t)) [
                | inl none ↦ inr (elim [ Rules.claim_33 e' d' w ph' is ↦ absurd (cc) ])
                | inr (w, is) ↦ inl (Rules.claim_33 e d w ph is)
              ]) λ low.
              check c ClaimValue refl low (elim (cases_unfit e σ s t v) [
                | inl u ↦ inl (Rules.claim_34 e d ph u)
                | inr f ↦ inr (elim [ Rules.claim_34 e' d' ph' u ↦ let p : e' ≡ e = cc in f (rw p at u) ])
              ]) λ low.
              accept c low (Rules.claimed e d ph)
        ]
    outcome Close = elim (cases_claiming σ.phase) [
      | inl n ↦ refuse Close CloseNotClaiming (Rules.close_40 n) (start Close)
      | inr (e, d, ph) ↦
          check Close CloseNotClaiming refl (start Close) (inr (elim [ Rules.close_40 n ↦ n e d ph ])) λ low.
          check Close NoClaims refl low (elim (cases_eq (claims d) 0) [
            | inl none ↦ inl (Rules.close_41 e d ph none)
            | inr some ↦ inr (elim [ Rules.close_41 e' d' ph' none ↦ some (cc) ])
          ]) λ low.
          accept Close low (Rules.closes e d ph)
    ]
    outcome (Show s t ws) =
        let c : Call = Show s t ws in
        elim (cases_showing σ.phase) [
          | inl n ↦ refuse c NotShowing (Rules.show_50 n) (start c)
          | inr (e, d, b, ph) ↦
              check c NotShowing refl (start c) (inr (elim [ Rules.show_50 n ↦ n e d b ph ])) λ low.
              elim (cases_outside s t) [
                | inl o ↦ refuse c ShowOutside (Rules.show_51 o) low
                | inr i ↦
                    check c ShowOutside refl low (inr (elim [ Rules.show_51 o ↦ inside m K i o ])) λ low.
                    elim (cases_option (d s t)) [
                      | inl none ↦ refuse c NoClaim (Rules.show_52 e d b ph none) low
                      | inr (v, is) ↦
                          check c NoClaim refl low (inr (elim [ Rules.show_52 e' d' b' ph' none ↦ absurd (cc) ])) λ low.
                          elim (cases_Bool (b s t)) [
                            | inl did ↦ refuse c ShownAlready (Rules.show_53 e d b ph did) low
                            | inr none ↦
                                check c ShownAlready refl low (inr (elim [ Rules.show_53 e' d' b' ph' did ↦ absurd (cc) ])) λ low.
                                elim (cases_result (m.weigh e (weighed_in m K e d σ) s t ws)) [
                                  | inr (f, w) ↦ refuse c (Fault f) (Rules.show_54 e d b f ph w) low
                                  | inl (x, w) ↦ elim (cases_short e x v) [
                                    | inl short ↦ refuse c (Bound e x) (Rules.show_55 e d b v x ph is w short) (past_faults s t x ws e d b ph w low)
                                    | inr reach ↦ (_, _, accepts (showable m K σ e d b s t v x ws ph i is none w reach) (Rules.shown e d b ph))
                                  ]
                                ]
                          ]
                    ]
              ]
        ]
    outcome Enter = elim (cases_showing σ.phase) [
      | inl n ↦ refuse Enter EnterNotShowing (Rules.enter_60 n) (start Enter)
      | inr (e, d, b, ph) ↦
          check Enter EnterNotShowing refl (start Enter) (inr (elim [ Rules.enter_60 n ↦ n e d b ph ])) λ low.
          elim (cases_shown m K σ e d b ph) [
            | inl (s, t, g) ↦ refuse Enter (Unshown s t) g low
            | inr all ↦ (_, _, accepts (enterable m K σ e d b ph all) (Rules.enters e d b ph))
          ]
    ]
    outcome Abandon = check Abandon Resting refl (start Abandon) (elim (cases_resting σ.phase) [
      | inl h ↦ inl (Rules.abandon_70 h)
      | inr n ↦ inr (elim [ Rules.abandon_70 h ↦ n h ])
    ]) (λ low. accept Abandon low Rules.abandons)
    outcome (Ask s t) = check (Ask s t) AskOutside refl (start (Ask s t)) (elim (cases_outside s t) [ inl o ↦ inl (Rules.ask_80 o) | inr i ↦ inr (elim [ Rules.ask_80 o ↦ inside m K i o ]) ])
        (λ low. accept (Ask s t) low Rules.asks)

  pub one_outcome : EachCallHasOneOutcome m K
  one_outcome σ c = let (o, τ, step) = outcome σ c in (o, τ, step, λ o' τ' step'. one_step m K step step')
