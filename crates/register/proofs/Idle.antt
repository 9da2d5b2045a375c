-- Calls that do not suit the phase.
use Rattle.std.proofs.Common.{◌≡◌, Some, None, Err, Option, refl}
use Rattle.chart.specs.Meaning.{Meaning}
use Rattle.history.specs.declared.refusal.Refusal.{Refusal}
use Rattle.history.specs.declared.refusal.Refusal.TheVariants as refusal
use Rattle.history.specs.Rules.{Step}
use Rattle.register.specs.declared.phase.Phase.{Phase}
use Rattle.register.specs.declared.phase.Phase.TheVariants.{Resting, Claiming, Showing}
use Rattle.register.specs.declared.call.Call.{Call}
use Rattle.register.specs.declared.call.Call.TheVariants.{Open, Claim, Close, Show, Enter, Abandon}
use Rattle.register.specs.Calls.{call_of}
use Rattle.register.specs.Phases.{phase_of}
use Rattle.register.specs.declared.tables.Tables.{Tables}
use Rattle.register.specs.Tables.{top_in, state}
use Rattle.history.proofs.Cases.{never}
use Rattle.register.proofs.Steps.{open_busy, claim_idle, close_idle, show_idle, enter_idle, abandon_resting}

abbrev pub unsuited : {F : Type 0} → Phase → Call → Option (Refusal F)
unsuited Resting (Open e) = None
unsuited (Claiming c) (Open e) = Some refusal.NotResting
unsuited (Showing d) (Open e) = Some refusal.NotResting
unsuited Resting (Claim s t v) = Some refusal.NotClaiming
unsuited (Claiming c) (Claim s t v) = None
unsuited (Showing d) (Claim s t v) = Some refusal.NotClaiming
unsuited Resting Close = Some refusal.CloseNotClaiming
unsuited (Claiming c) Close = None
unsuited (Showing d) Close = Some refusal.CloseNotClaiming
unsuited Resting (Show s t ws) = Some refusal.NotShowing
unsuited (Claiming c) (Show s t ws) = Some refusal.NotShowing
unsuited (Showing d) (Show s t ws) = None
unsuited Resting Enter = Some refusal.EnterNotShowing
unsuited (Claiming c) Enter = Some refusal.EnterNotShowing
unsuited (Showing d) Enter = None
unsuited Resting Abandon = Some refusal.Resting
unsuited (Claiming c) Abandon = None
unsuited (Showing d) Abandon = None

module _ {F : Type 0} (m : Meaning F) (ts : Tables) where
  abbrev Refuses : Phase → Call → Refusal F → Type 0
  Refuses p k r = Step m (top_in ts) (state ts (phase_of p)) (call_of k) (Err r) (state ts (phase_of p))

  taken : (p : Phase) (k : Call) (q r : Refusal F) → Some q ≡ Some r → Refuses p k q → Refuses p k r
  taken p k q r e step = let same : q ≡ r = cc in rw (← same) step

  nothing : {A : Type 0} (r : Refusal F) → ◌≡◌ {A = Option (Refusal F)} None (Some r) → A
  nothing r e = never (cc)

  pub idle : (p : Phase) (k : Call) (r : Refusal F) → unsuited p k ≡ Some r → Refuses p k r
  idle Resting (Open e) r h = nothing r h
  idle (Claiming c) (Open e) r h = taken (Claiming c) (Open e) _ r h (open_busy m (top_in ts) _ e (λ x. never (cc)))
  idle (Showing d) (Open e) r h = taken (Showing d) (Open e) _ r h (open_busy m (top_in ts) _ e (λ x. never (cc)))
  idle Resting (Claim s t v) r h = taken Resting (Claim s t v) _ r h (claim_idle m (top_in ts) _ s t v (λ e d x. never (cc)))
  idle (Claiming c) (Claim s t v) r h = nothing r h
  idle (Showing d) (Claim s t v) r h = taken (Showing d) (Claim s t v) _ r h (claim_idle m (top_in ts) _ s t v (λ e d x. never (cc)))
  idle Resting Close r h = taken Resting Close _ r h (close_idle m (top_in ts) _ (λ e d x. never (cc)))
  idle (Claiming c) Close r h = nothing r h
  idle (Showing d) Close r h = taken (Showing d) Close _ r h (close_idle m (top_in ts) _ (λ e d x. never (cc)))
  idle Resting (Show s t ws) r h = taken Resting (Show s t ws) _ r h (show_idle m (top_in ts) _ s t _ (λ e d b x. never (cc)))
  idle (Claiming c) (Show s t ws) r h = taken (Claiming c) (Show s t ws) _ r h (show_idle m (top_in ts) _ s t _ (λ e d b x. never (cc)))
  idle (Showing d) (Show s t ws) r h = nothing r h
  idle Resting Enter r h = taken Resting Enter _ r h (enter_idle m (top_in ts) _ (λ e d b x. never (cc)))
  idle (Claiming c) Enter r h = taken (Claiming c) Enter _ r h (enter_idle m (top_in ts) _ (λ e d b x. never (cc)))
  idle (Showing d) Enter r h = nothing r h
  idle Resting Abandon r h = taken Resting Abandon _ r h (abandon_resting m (top_in ts) _ refl)
  idle (Claiming c) Abandon r h = nothing r h
  idle (Showing d) Abandon r h = nothing r h
