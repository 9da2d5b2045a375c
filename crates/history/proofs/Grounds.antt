-- Calls that there is no ground to refuse.
use Rattle.std.proofs.Common.{◌≡◌, ℕ, ◌<◌, Bool, true, false, cond, List, ℤ, is_some, Some, None, Ok, ap, arith}
use Rattle.finite.specs.Sums.{sum}
use Rattle.finite.proofs.Sums.{term_le_sum}
use Rattle.chart.specs.declared.side.Side.{Side}
use Rattle.chart.specs.Meaning.{Meaning, Judged}
use Rattle.history.specs.declared.refusal.Refusal.{Refusal}
use Rattle.history.specs.Calls.{Call, Open, Claim, Close, Show, Enter}
use Rattle.history.specs.Rules
use Rattle.history.specs.Rules.{State, resting, claiming, showing, Draft, Marks, side_of, Short, Outside, Unfit, Ground, weighed_in}
use Rattle.history.proofs.Cases.{absurd_bool}
use Rattle.history.proofs.Sound.{Fits}

some_counted : (n : ℕ) (f : ℕ → ℕ → Bool) (s t : ℕ) → s < n → t < n → f s t ≡ true → sum n (λ x. sum n (λ y. cond (f x y) 1 0)) ≡ 0 → ⊥
some_counted n f s t hs ht is none =
    let row = term_le_sum n (λ x. sum n (λ y. cond (f x y) 1 0)) s hs in
    let one = term_le_sum n (λ y. cond (f s y) 1 0) t ht in
    let here : cond {A = ℕ} (f s t) 1 0 ≡ 1 = rw is in
    omega arith

module _ {F : Type 0} (m : Meaning F) (K : ℕ) where
  pub inside : {s t : ℕ} → (s < m.sections) × (t < m.sections) → Outside m K s t → ⊥
  inside h o = grind arith

  pub judged_inside : {s t : ℕ} → Judged m s t → Outside m K s t → ⊥
  judged_inside j o = inside (j.first_in, j.second_in) o

  fits_unfit : (e : Side) (σ : State) (s t v : ℕ) → Fits m K e (side_of e σ) s t v → Unfit m K e σ s t v → ⊥
  fits_unfit e σ s t v f u = grind (arith, f.tight, f.top)

  module _ (σ : State) where
    abbrev pub Free : Call → Type 0
    Free c = (q : Refusal F) → Ground m K σ c q → ⊥

    pub openable : (e : Side) → σ.phase ≡ resting → Free (Open e)
    openable e h q (Rules.open_20 n) = n h

    module _ (e : Side) (d : Draft) where
      pub claimable : (s t v : ℕ) → σ.phase ≡ claiming e d → d s t ≡ None → Fits m K e (side_of e σ) s t v → Free (Claim s t v)
      claimable s t v ph none f q (Rules.claim_30 n) = n e d ph
      claimable s t v ph none f q (Rules.claim_31 o) = judged_inside f.judged o
      claimable s t v ph none f q (Rules.claim_32 a) = absurd_bool a f.judged.together
      claimable s t v ph none f q (Rules.claim_33 e' d' w ph' is) = absurd (cc)
      claimable s t v ph none f q (Rules.claim_34 e' d' ph' u) = let p : e' ≡ e = cc in fits_unfit e σ s t v f (rw p at u)

      pub closable : (s t v : ℕ) → σ.phase ≡ claiming e d → s < 32 → t < 32 → d s t ≡ Some v → Free Close
      closable s t v ph hs ht is q (Rules.close_40 n) = n e d ph
      closable s t v ph hs ht is q (Rules.close_41 e' d' ph' none) = let p : d' ≡ d = cc in some_counted 32 (λ x y. is_some (d x y)) s t hs ht (ap is_some is) (rw p at none)

      pub showable : (b : Marks) (s t v c : ℕ) (ws : List ℤ) → σ.phase ≡ showing e d b → (s < m.sections) × (t < m.sections) → d s t ≡ Some v → b s t ≡ false
          → m.weigh e (weighed_in m K e d σ) s t ws ≡ Ok c → (Short e c v → ⊥) → Free (Show s t ws)
      showable b s t v c ws ph within is none w reach q (Rules.show_50 n) = n e d b ph
      showable b s t v c ws ph within is none w reach q (Rules.show_51 o) = inside within o
      showable b s t v c ws ph within is none w reach q (Rules.show_52 e' d' b' ph' not) = absurd (cc)
      showable b s t v c ws ph within is none w reach q (Rules.show_53 e' d' b' ph' did) = absurd (cc)
      showable b s t v c ws ph within is none w reach q (Rules.show_54 e' d' b' f ph' w') = absurd (cc)
      showable b s t v c ws ph within is none w reach q (Rules.show_55 e' d' b' v' c' ph' is' w' short) = grind (arith, reach)

      pub enterable : (b : Marks) → σ.phase ≡ showing e d b → ((s t v : ℕ) → s < 32 → t < 32 → d s t ≡ Some v → b s t ≡ true) → Free Enter
      enterable b ph all q (Rules.enter_60 n) = n e d b ph
      enterable b ph all q (Rules.enter_61 e' d' b' s t v ph' hs ht is none first) =
          let shown = all s t v hs ht (cc) in absurd (cc)
