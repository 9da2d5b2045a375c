-- The outcome of a call k that suits the phase p.
use Rattle.std.proofs.Common.{◌≡◌, ℕ, false, ◌≢◌, Some, None, Ok, Err, sym, refl, ap, ◌∙◌}
use Rattle.chart.specs.declared.side.Side.{Side}
use Rattle.chart.specs.declared.side.Side.TheVariants.{Upper, Lower}
use Rattle.chart.specs.Meaning.{Meaning}
use Rattle.history.specs.declared.refusal.Refusal.TheVariants.{NoClaims, Unshown}
use Rattle.history.specs.Calls.{count}
use Rattle.history.specs.Rules
use Rattle.history.specs.Rules.{State, Draft, draft_of, resting, claims, written, Step}
use Rattle.history.proofs.Cases.{never}
use Rattle.claims.specs.declared.draft.Claims.{Claims}
use Rattle.claims.specs.declared.closed.ClosedDraft.{ClosedDraft}
use Rattle.claims.specs.Scan.{First}
use Rattle.claims.specs.Views.{values_of, marks_of}
use Rattle.register.specs.declared.call.Call.{Call}
use Rattle.register.specs.declared.call.Call.TheVariants.{Open, Close, Enter, Abandon}
use Rattle.register.specs.declared.phase.Phase.{Phase}
use Rattle.register.specs.declared.phase.Phase.TheVariants.{Resting, Claiming, Showing}
use Rattle.register.specs.declared.tables.Tables.{Tables}
use Rattle.register.specs.Calls.{call_of}
use Rattle.register.specs.Phases.{phase_of}
use Rattle.register.specs.Tables.{top_in, state}
use Rattle.register.proofs.Idle.{unsuited}
use Rattle.register.proofs.Steps.{open_resting, close_empty, close_some, enter_first, enter_all, abandon_busy}

written_any : (e : Side) (d : Draft) (ts : Tables) (p q : Rules.Phase) → written e d (state ts p) ≡ written e d (state ts q)
written_any Upper d ts p q = refl
written_any Lower d ts p q = refl

busy : (F : Type 0) (p : Phase) → unsuited {F = F} p Abandon ≡ None → phase_of p ≢ resting
busy F Resting h e = never (cc)
busy F (Claiming c) h e = never (cc)
busy F (Showing d) h e = never (cc)

-- how many claims are forgotten
abbrev pub counts : Phase → ℕ
counts p = claims (draft_of (phase_of p))

module _ {F : Type 0} (m : Meaning F) (ts : Tables) (p : Phase) (k : Call) where
  abbrev before : State
  before = state ts (phase_of p)

  pub opened : (e : Side) (d : Claims) → p ≡ Resting → k ≡ Open e → d.side ≡ e → values_of d ≡ (λ s t. None)
      → Step m (top_in ts) before (call_of k) (Ok (count 0)) (state ts (phase_of (Claiming d)))
  opened e d ph is es ev = rw (is, es, ev) (open_resting m (top_in ts) before e (ap phase_of ph))

  pub abandoned : (p' : Phase) (n : ℕ) → unsuited {F = F} p k ≡ None → k ≡ Abandon → p' ≡ Resting → n ≡ counts p → Step m (top_in ts) before (call_of k) (Ok (count n)) (state ts (phase_of p'))
  abandoned p' n fine is rests en = rw (is, rests, en) (abandon_busy m (top_in ts) before (busy F p (ap (unsuited p) (sym is) ∙ fine)))

  module _ (d : Claims) (ph : p ≡ Claiming d) (is : k ≡ Close) where
    pub closed_empty : claims (values_of d) ≡ 0 → Step m (top_in ts) before (call_of k) (Err NoClaims) (state ts (phase_of (Claiming d)))
    closed_empty none = rw (is, ph) (close_empty m (top_in ts) (state ts (phase_of (Claiming d))) d.side (values_of d) refl none)

    pub closed : (d' : ClosedDraft) (n : ℕ) → d'.claims ≡ d → marks_of d' ≡ (λ s t. false) → n ≡ claims (values_of d) → n ≢ 0 → Step m (top_in ts) before (call_of k) (Ok (count n)) (state ts (phase_of (Showing d')))
    closed d' n same eb en some = rw (is, same, eb, en) (close_some m (top_in ts) before d.side (values_of d) (ap phase_of ph) (λ none. some (en ∙ none)))

  module _ (d : ClosedDraft) (ph : p ≡ Showing d) (is : k ≡ Enter) where
    pub entered_first : (q : ℕ × ℕ) → First (values_of d.claims) (marks_of d) (Some q) → Step m (top_in ts) before (call_of k) (Err (Unshown q.0 q.1)) (state ts (phase_of (Showing d)))
    entered_first q first = rw (is, ph) (enter_first m (top_in ts) (state ts (phase_of (Showing d))) d.claims.side (values_of d.claims) (marks_of d) refl q first)

    pub entered : (ts' : Tables) (p' : Phase) (n : ℕ) → First (values_of d.claims) (marks_of d) None → state ts' resting ≡ written d.claims.side (values_of d.claims) (state ts resting) → p' ≡ Resting → n ≡ claims (values_of d.claims)
        → Step m (top_in ts) before (call_of k) (Ok (count n)) (state ts' (phase_of p'))
    entered ts' p' n none ets rests en =
        rw (is, rests, ets, en, written_any d.claims.side (values_of d.claims) ts resting (phase_of p)) (enter_all m (top_in ts) before d.claims.side (values_of d.claims) (marks_of d) (ap phase_of ph) none)
