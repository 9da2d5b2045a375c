-- What a call or a weighing comes to.
use Rattle.std.specs.Prelude.{ℕ, Ok, Err, Result}
use Rattle.history.specs.declared.refusal.Refusal.{Refusal}
use Rattle.history.specs.Calls
use Rattle.history.specs.Calls.{count, entries}
use Rattle.script.specs.declared.answer.Answer.{Answer}
use Rattle.script.specs.declared.answer.Answer.TheVariants.{Count, Entries, Claim}
use Rattle.script.specs.declared.rejection.Rejection.{Rejection}
use Rattle.script.specs.declared.rejection.Rejection.TheVariants.{Refused, Fault}

abbrev pub answered : {F : Type 0} → Result Calls.Answer (Refusal F) → Result Answer (Rejection F)
answered (Ok (count n)) = Ok (Count n)
answered (Ok (entries l u v)) = Ok (Entries l u v)
answered (Err r) = Err (Refused r)

abbrev pub weighed : {F : Type 0} → Result ℕ F → Result Answer (Rejection F)
weighed (Ok c) = Ok (Claim c)
weighed (Err f) = Err (Fault f)
