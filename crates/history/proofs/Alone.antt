-- The calls alone fix a history and the state after it.
use Rattle.std.proofs.Common.{◌≡◌, ℕ, List, ◌∷◌, sym, refl, ap₂}
use Rattle.chart.specs.Meaning.{Meaning}
use Rattle.history.specs.Calls.{Page}
use Rattle.history.specs.Rules.{State, Run, rest, turn}
use Rattle.history.specs.Promises.{calls}
use Rattle.history.proofs.Outcomes.{one_step}

same_page : {F : Type 0} (p q : Page F) → p.call ≡ q.call → p.outcome ≡ q.outcome → p ≡ q
same_page p q c o = λ i. record { call = c i; outcome = o i }

module _ {F : Type 0} (m : Meaning F) (K : ℕ) where
  pub by_calls_alone : {σ : State} {h : List (Page F)} {τ : State} {g : List (Page F)} {ρ : State} → Run m K σ h τ → Run m K σ g ρ → calls g ≡ calls h → (g ≡ h) × (ρ ≡ τ)
  by_calls_alone rest rest e = (refl, refl)
  by_calls_alone (turn {p = p} {ps = ps} step run) (turn {p = q} {ps = qs} step' run') e =
      let call : q.call ≡ p.call = cc in
      let later : calls qs ≡ calls ps = cc in
      let (outcome, after) = one_step m K step (rw call at step') in
      let (pages, end) = by_calls_alone run (rw (← after) at run') later in
      (ap₂ ◌∷◌ (same_page q p call (sym outcome)) pages, end)
  by_calls_alone _ _ e = absurd (cc)
