-- What an ask comes to inside the sections.
use Rattle.std.proofs.Common.{◌≡◌, ℕ, ◌<◌, Ok, Err, refl}
use Rattle.chart.specs.Meaning.{Meaning}
use Rattle.history.specs.declared.refusal.Refusal.{Refusal}
use Rattle.history.specs.declared.verdict.Verdict.{Verdict}
use Rattle.history.specs.Calls.{Ask, entries}
use Rattle.history.specs.Rules
use Rattle.history.specs.Rules.{State, Step, refuses, accepts}
use Rattle.history.proofs.Grounds.{inside}
use Rattle.script.specs.declared.report.items.Row.{Row}
use Rattle.script.specs.Report.{row_of}

module _ {F : Type 0} (m : Meaning F) (K : ℕ) where
  -- it is not refused
  pub not_refused : (σ τ : State) (s t : ℕ) (r : Refusal F) → s < m.sections → t < m.sections → Step m K σ (Ask s t) (Err r) τ → ⊥
  not_refused σ τ s t r hs ht (refuses _ (Rules.ask_80 out) least) = inside m K (hs, ht) out

  -- and it answers what the pair's row says
  pub answers : (σ τ : State) (s t l u : ℕ) (v : Verdict) → Step m K σ (Ask s t) (Ok (entries l u v)) τ
      → ◌≡◌ {A = Row} (record { s = s; t = t; lower = l; upper = u; verdict = v }) (row_of m σ (s, t))
  answers σ τ s t l u v (accepts free Rules.asks) = refl
