-- What a call, a weighing or a making comes to, in numbers.
use Rattle.std.specs.Prelude.{ℕ, Bool, true, false, List, [], ◌∷◌, take, Ok, Err, Result}
use Rattle.files.specs.declared.refusal.ReadRefusal.{ReadRefusal}
use Rattle.files.specs.Refusals as reading
use Rattle.history.specs.declared.refusal.Refusal.{Refusal}
use Rattle.history.specs.declared.verdict.Verdict.{Verdict}
use Rattle.history.specs.declared.verdict.Verdict.TheVariants.{Apart, Settled, Open}
use Rattle.history.specs.Calls.{Answer, count, entries}
use Rattle.history.specs.Refusals.{number, carried}
use Rattle.file_registers.specs.declared.registers.NotMade.{NotMade}
use Rattle.file_registers.specs.declared.registers.NotMade.TheVariants.{First, Second, Top, Misfit}
use Rattle.file_registers.specs.declared.outcome.Outcome.{Outcome}

-- an outcome as its numbers: whether it is accepted, and as many numbers as it counts
abbrev pub in_numbers : Outcome → Bool × List ℕ
in_numbers o = (o.accepted, take o.count o.numbers)

abbrev pub verdict_number : Verdict → ℕ
verdict_number Apart = 0
verdict_number Settled = 1
verdict_number Open = 2

-- a refusal's number and what it carries; the first argument tells the numbers of a fault
abbrev pub refusal_outcome : {F : Type 0} → (F → List ℕ) → Refusal F → Bool × List ℕ
refusal_outcome fault r = (false, number r ∷ carried fault r)

-- a call's answer, or its refusal
abbrev pub call_outcome : {F : Type 0} → (F → List ℕ) → Result Answer (Refusal F) → Bool × List ℕ
call_outcome fault (Ok (count n)) = (true, n ∷ [])
call_outcome fault (Ok (entries lower upper verdict)) = (true, lower ∷ upper ∷ verdict_number verdict ∷ [])
call_outcome fault (Err r) = refusal_outcome fault r

-- a weighing's claim, or its fault
abbrev pub weighing_outcome : {F : Type 0} → (F → List ℕ) → Result ℕ F → Bool × List ℕ
weighing_outcome fault (Ok claim) = (true, claim ∷ [])
weighing_outcome fault (Err f) = (false, fault f)

-- why no register is made: a refused chart file tells its number, its place, and of which sitting the chart was to be
abbrev pub reading_numbers : ReadRefusal → ℕ → List ℕ
reading_numbers e sitting = reading.number e ∷ reading.place e ∷ sitting ∷ []

abbrev pub not_made_numbers : NotMade → List ℕ
not_made_numbers (First e) = reading_numbers e 0
not_made_numbers (Second e) = reading_numbers e 1
not_made_numbers Top = 11 ∷ []
not_made_numbers Misfit = 12 ∷ []
