-- Every register keeps its promise.
use Rattle.std.proofs.Common.{ℕ}
use Rattle.chart.specs.Meaning.{Meaning}
use Rattle.chart.specs.Laws.{Lawful}
use Rattle.chart.specs.Told.{meaning_of}
use Rattle.chart.specs.Tops.{InRange}
use Rattle.chart.proofs.Telling.{same_as_told, told_lawful}
use Rattle.history.specs.Rules.{State}
use Rattle.history.specs.Promises.{HasHistory, KeepsPromise}
use Rattle.history.proofs.Sound.{upper_supported, lower_bounded, lower_true}
use Rattle.history.proofs.Agreement.{agree_where_led}
use Rattle.history.proofs.Tellings.{told_history}
use Rattle.history.proofs.Alone.{by_calls_alone}
use Rattle.history.proofs.Outcomes.{one_outcome}
use Rattle.history.proofs.Sending.{certificate_enters}
use Rattle.history.proofs.Resting.{rests_by_history}

pub keeps_promise : {F : Type 0} (m : Meaning F) → Lawful m → (K : ℕ) → InRange K → (σ : State) → HasHistory m K σ → KeepsPromise m K σ
keeps_promise m lawful K k σ had = record {
  history = had;
  promise = λ h run. record {
    alone = λ g τ other same. by_calls_alone m K run other same;
    upper = upper_supported m lawful K k σ h run;
    lower = lower_true m lawful K k σ h run;
    bounded = lower_bounded m lawful K k σ h run;
    certificates = certificate_enters m lawful K k σ h run;
    rests = rests_by_history m K k σ h run;
  };
  outcomes = one_outcome m K;
  agrees = λ other lawful' same J j τ g run. agree_where_led m (meaning_of other) lawful lawful' same K J k j σ τ had ∣ (g, run) ∣₁;
  told_lawful = told_lawful m lawful;
  told_same = same_as_told m lawful;
  told_history = told_history m K had;
}
