-- What the register's calls and answers stand for.
use Rattle.std.specs.Prelude.{ℕ, Ok, Err, Result}
use Rattle.history.specs.declared.refusal.Refusal.{Refusal}
use Rattle.history.specs.declared.verdict.Verdict.{Verdict}
use Rattle.history.specs.Calls
use Rattle.history.specs.Calls.{Answer, count, entries}
use Rattle.register.specs.declared.call.Call.{Call}
use Rattle.register.specs.declared.call.Call.TheVariants.{Open, Claim, Close, Show, Enter, Abandon}

abbrev pub call_of : Call → Calls.Call
call_of (Open side) = Calls.Open side
call_of (Claim s t value) = Calls.Claim s t value
call_of Close = Calls.Close
call_of (Show s t words) = Calls.Show s t words.now
call_of Enter = Calls.Enter
call_of Abandon = Calls.Abandon

-- the outcome of a call that answers with a count
abbrev pub counted : {F : Type 0} → Result ℕ (Refusal F) → Result Answer (Refusal F)
counted (Ok n) = Ok (count n)
counted (Err r) = Err r

-- the outcome of an ask
abbrev pub asked : {F : Type 0} → Result (ℕ × ℕ × Verdict) (Refusal F) → Result Answer (Refusal F)
asked (Ok p) = Ok (entries p.0 p.1 p.2)
asked (Err r) = Err r
