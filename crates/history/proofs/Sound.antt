-- What holds of every state that a history leads to.
use Rattle.std.proofs.Common.{◌≡◌, ℕ, ◌<◌, ◌≤◌, true, List, ℤ, Some, Ok, Err, Result, refl, subst, inl, inr, arith}
use Rattle.std.proofs.lemmas.Bool.{false_from_ne_true}
use Rattle.std.proofs.lemmas.Bool.Decides.{nat_tests}
use Rattle.chart.specs.declared.side.Side.{Side}
use Rattle.chart.specs.declared.side.Side.TheVariants.{Upper, Lower}
use Rattle.chart.specs.Distances.{Distances}
use Rattle.chart.specs.Weighing.{Weaker, Weighs}
use Rattle.chart.specs.Meaning.{Meaning, Judged, Shown}
use Rattle.chart.specs.Laws.{Lawful, Tighter}
use Rattle.chart.specs.Supported.{Supported}
use Rattle.chart.specs.Tops.{InRange}
use Rattle.history.specs.declared.refusal.Refusal.{Refusal}
use Rattle.history.specs.declared.refusal.Refusal.TheVariants.{ClaimOutside, ClaimApart, ClaimValue, Fault, Bound}
use Rattle.history.specs.Calls.{Call, Show, Answer, Page}
use Rattle.history.specs.Rules
use Rattle.history.specs.Rules.{State, Phase, resting, claiming, showing, Draft, Marks, laid, side_of, with_phase, written, over, Outside, Unfit, Ground, Effect, Step, refuses, accepts, Run, rest, turn, fresh, weighed_in}
use Rattle.history.specs.Bounding.{Bounding}
use Rattle.history.specs.Promises.{Always, Below}
use Rattle.history.proofs.Cases.{absurd_bool, absurd_option, at_put, at_laid, cases_result, cases_shown, reaches}
use Rattle.history.proofs.Peak.{supported_bounding, below}

-- ---- what a weighing answers

module _ {F : Type 0} (m : Meaning F) (lawful : Lawful m) (e : Side) (d : Distances) (s t : ℕ) (ws : List ℤ) where
  weighs_as : (r : Result ℕ F) → m.weigh e d s t ws ≡ r → Weighs e (m.valid e d s t ws) (m.shows e d s t ws) r
  weighs_as r is = subst (Weighs e (m.valid e d s t ws) (m.shows e d s t ws)) is (lawful.weighs e d s t ws)

  pub answer_shown : (c : ℕ) → m.weigh e d s t ws ≡ Ok c → Shown m e d s t ws c
  answer_shown c is = let (valid, best) = weighs_as (Ok c) is in record { valid = valid; shows = best.shown }

  pub answer_strongest : (c v : ℕ) → m.weigh e d s t ws ≡ Ok c → Shown m e d s t ws v → Weaker e c v
  answer_strongest c v is shown = (weighs_as (Ok c) is).1.others v shown.shows

  pub fault_unshown : (f : F) (v : ℕ) → m.weigh e d s t ws ≡ Err f → Shown m e d s t ws v → ⊥
  fault_unshown f v is shown = weighs_as (Err f) is shown.valid

-- ---- what holds of a state

module _ {F : Type 0} (m : Meaning F) (K : ℕ) where
  -- a claim is of a judged pair, and asks no less than the entry that stands there
  pub record Fits (e : Side) (f : ℕ → ℕ → ℕ) (s t v : ℕ) : Type 0 where
    pub judged : Judged m s t
    pub tight : Weaker e v (f s t)
    pub top : v ≤ K

  abbrev pub Fit : Side → (ℕ → ℕ → ℕ) → Draft → Type 0
  Fit e f d = (s t v : ℕ) → d s t ≡ Some v → Fits e f s t v

  abbrev pub Marked : Side → (ℕ → ℕ → ℕ) → Draft → Marks → Type 0
  Marked e f d b = (s t v : ℕ) → d s t ≡ Some v → b s t ≡ true → (ws : List ℤ) × Shown m e (over K (laid d f)) s t ws v

  abbrev pub InPhase : State → Phase → Type 0
  InPhase σ resting = Unit {0}
  InPhase σ (claiming e d) = Fit e (side_of e σ) d
  InPhase σ (showing e d b) = Fit e (side_of e σ) d × Marked e (side_of e σ) d b

  pub record Sound (σ : State) : Type 0 where
    pub upper : Supported m (over K σ.upper)
    pub lower : (e : Distances) → Bounding m e → Below m.sections (over K σ.lower) e
    pub lower_apart : (s t : ℕ) → s < m.sections → t < m.sections → m.apart s t ≡ true → σ.lower s t ≡ K
    pub phase : InPhase σ σ.phase

module _ {F : Type 0} (m : Meaning F) (lawful : Lawful m) (K : ℕ) where
  fresh_sound : InRange K → Sound m K (fresh m K)
  fresh_sound k = record {
    upper = record { top_least = k.0; bounded = λ s t hs ht. omega arith; apart = λ s t hs ht a. refl; judged = λ s t j low. absurd (omega arith) };
    lower = λ e bounding s t hs ht. grind (arith, nat_tests, bounding.apart s t hs ht);
    lower_apart = λ s t hs ht a. grind (arith, nat_tests);
    phase = tt;
  }

  moved : (σ : State) (p : Phase) → Sound m K σ → InPhase m K (with_phase σ p) p → Sound m K (with_phase σ p)
  moved σ p sound h = record { upper = sound.upper; lower = sound.lower; lower_apart = sound.lower_apart; phase = h }

  pub in_phase : (σ : State) (p : Phase) → Sound m K σ → σ.phase ≡ p → InPhase m K σ p
  in_phase σ p sound e = subst (InPhase m K σ) e sound.phase

  judged : (s t : ℕ) → (Outside m K s t → ⊥) → (m.apart s t ≡ true → ⊥) → Judged m s t
  judged s t inside together = record { first_in = grind arith; second_in = grind arith; together = false_from_ne_true _ together }

  fits : (e : Side) (σ : State) (s t v : ℕ) → Sound m K σ → Judged m s t → (Unfit m K e σ s t v → ⊥) → Fits m K e (side_of e σ) s t v
  fits Upper σ s t v sound j h = record { judged = j; tight = omega arith; top = omega (arith, sound.upper.bounded s t j.first_in j.second_in) }
  fits Lower σ s t v sound j h = record { judged = j; tight = grind arith; top = grind arith }

  -- an accepted showing shows the claim
  shown_now : (σ : State) (e : Side) (d : Draft) (b : Marks) (s t : ℕ) (ws : List ℤ) (v : ℕ) → ((q : Refusal F) → Ground m K σ (Show s t ws) q → ⊥)
      → σ.phase ≡ showing e d b → d s t ≡ Some v → Shown m e (weighed_in m K e d σ) s t ws v
  shown_now σ e d b s t ws v ok ph is = elim (cases_result (m.weigh e (weighed_in m K e d σ) s t ws)) [
    | inl (c, w) ↦ lawful.closed e _ s t ws c v (answer_shown m lawful e _ s t ws c w) (reaches e c v (λ short. ok (Bound e c) (Rules.show_55 e d b v c ph is w short)))
    | inr (f, w) ↦ absurd (ok (Fault f) (Rules.show_54 e d b f ph w))
  ]

  tighter : (e : Side) (f : ℕ → ℕ → ℕ) (d : Draft) → Fit m K e f d → Tighter e m.sections (over K (laid d f)) (over K f)
  tighter e f d fit = record {
    tops = refl;
    entries = λ s t hs ht. elim (at_laid d f s t) [ inl (v, is, eq) ↦ rw eq (fit s t v is).tight | inr (is, eq) ↦ rw eq (grind arith) ];
  }

  -- a draft has no claim of an apart pair
  kept_apart : (e : Side) (f : ℕ → ℕ → ℕ) (d : Draft) (s t : ℕ) → Fit m K e f d → m.apart s t ≡ true → laid d f s t ≡ f s t
  kept_apart e f d s t fit a = elim (at_laid d f s t) [ inl (v, is, eq) ↦ absurd_bool a (fit s t v is).judged.together | inr (is, eq) ↦ eq ]

  written_sound : (e : Side) (d : Draft) (σ : State) → Sound m K σ → Fit m K e (side_of e σ) d
      → ((s t v : ℕ) → d s t ≡ Some v → (ws : List ℤ) × Shown m e (weighed_in m K e d σ) s t ws v) → Sound m K (written e d σ)
  written_sound Upper d σ sound fit all = record {
    upper = record {
      top_least = sound.upper.top_least;
      bounded = λ s t hs ht. elim (at_laid d σ.upper s t) [ inl (v, is, eq) ↦ rw eq (fit s t v is).top | inr (is, eq) ↦ rw eq (sound.upper.bounded s t hs ht) ];
      apart = λ s t hs ht a. rw (kept_apart Upper σ.upper d s t fit a) (sound.upper.apart s t hs ht a);
      judged = λ s t j low. elim (at_laid d σ.upper s t) [
        | inl (v, is, eq) ↦ let (ws, shown) = all s t v is in rw eq (ws, lawful.words _ s t ws shown.valid, shown)
        | inr (is, eq) ↦
            let (ws, words, shown) = sound.upper.judged s t j (rw eq at low) in
            rw eq (ws, words, lawful.monotone Upper (over K σ.upper) _ s t ws _ (tighter Upper σ.upper d fit) shown)
      ];
    };
    lower = sound.lower;
    lower_apart = sound.lower_apart;
    phase = tt;
  }
  written_sound Lower d σ sound fit all = record {
    upper = sound.upper;
    lower = λ e bounding. below m lawful (over K (laid d σ.lower)) e bounding (λ s t hs ht. elim (at_laid d σ.lower s t) [
      | inl (v, is, eq) ↦ let f = fit s t v is in rw eq (inr (f.judged, f.top, all s t v is))
      | inr (is, eq) ↦ rw eq (inl (sound.lower e bounding s t hs ht))
    ]);
    lower_apart = λ s t hs ht a. rw (kept_apart Lower σ.lower d s t fit a) (sound.lower_apart s t hs ht a);
    phase = tt;
  }

  effect_sound : {σ : State} {c : Call} {a : Answer} {τ : State} → ((q : Refusal F) → Ground m K σ c q → ⊥) → Effect m K σ c a τ → Sound m K σ → Sound m K τ
  effect_sound {σ} ok Rules.opens sound = moved σ _ sound (λ s t v e. absurd_option refl e)
  effect_sound {σ} ok (Rules.claimed {s} {t} {v} e d ph) sound =
      let j = judged s t (λ o. ok ClaimOutside (Rules.claim_31 o)) (λ a. ok ClaimApart (Rules.claim_32 a)) in
      let new = fits e σ s t v sound j (λ u. ok ClaimValue (Rules.claim_34 e d ph u)) in
      moved σ _ sound (λ x y w is. grind (arith, nat_tests, in_phase σ _ sound ph x y w))
  effect_sound {σ} ok (Rules.closes e d ph) sound = moved σ _ sound (in_phase σ _ sound ph, λ s t v is mark. absurd_bool mark refl)
  effect_sound {σ} ok (Rules.shown {s} {t} {ws} e d b ph) sound =
      let (fit, marked) = in_phase σ _ sound ph in
      moved σ _ sound (
        fit,
        λ x y v is mark. elim (at_put s t true b x y) [
          | inl (p, q, r) ↦ rw (p, q) (ws, shown_now σ e d b s t ws v ok ph (cc))
          | inr r ↦ marked x y v is (cc)
        ],
      )
  effect_sound {σ} ok (Rules.enters e d b ph) sound =
      let (fit, marked) = in_phase σ _ sound ph in
      let few : (s : ℕ) → s < m.sections → s < 32 = λ s h. omega (arith, lawful.sections_most) in
      elim (cases_shown m K σ e d b ph) [
        | inl (s, t, g) ↦ absurd (ok _ g)
        | inr all ↦ written_sound e d σ sound fit (λ s t v is. let j = (fit s t v is).judged in marked s t v is (all s t v (few s j.first_in) (few t j.second_in) is))
      ]
  effect_sound {σ} ok Rules.abandons sound = moved σ _ sound tt
  effect_sound ok Rules.asks sound = sound

  run_sound : {σ : State} {h : List (Page F)} {τ : State} → Run m K σ h τ → Sound m K σ → Sound m K τ
  run_sound rest sound = sound
  run_sound (turn (refuses r g least) run) sound = run_sound run sound
  run_sound (turn (accepts ok effect) run) sound = run_sound run (effect_sound ok effect sound)

  pub always_sound : InRange K → (σ : State) (h : List (Page F)) → Run m K (fresh m K) h σ → Sound m K σ
  always_sound k σ h run = run_sound run (fresh_sound k)

module _ {F : Type 0} (m : Meaning F) (lawful : Lawful m) where
  pub upper_supported : Always m (λ K σ h. Supported m (over K σ.upper))
  upper_supported K k σ h run = (always_sound m lawful K k σ h run).upper

  pub lower_bounded : Always m (λ K σ h. (e : Distances) → Bounding m e → Below m.sections (over K σ.lower) e)
  lower_bounded K k σ h run = (always_sound m lawful K k σ h run).lower

  pub lower_true : Always m (λ K σ h. (e : Distances) → Supported m e → Below m.sections (over K σ.lower) e)
  lower_true K k σ h run e sup = lower_bounded K k σ h run e (supported_bounding m lawful e sup)
