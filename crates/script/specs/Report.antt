-- What the report at the end of a script says.
use Rattle.std.specs.Prelude.{ℕ, ◌+◌, ◌-◌, ◌^◌, min, Bool, true, false, List, map, Ok, Err, Result, ◌==◌, count_by}
use Rattle.std.specs.List.{flat_map, range_with_len}
use Rattle.chart.specs.Meaning.{Meaning}
use Rattle.history.specs.declared.verdict.Verdict.{Verdict}
use Rattle.history.specs.declared.verdict.Verdict.TheVariants.{Apart, Settled, Open}
use Rattle.history.specs.Rules.{State, verdict_of}
use Rattle.script.specs.declared.answer.Answer.{Answer}
use Rattle.script.specs.declared.answer.Answer.TheVariants.{Count, Entries}
use Rattle.script.specs.declared.rejection.Rejection.{Rejection}
use Rattle.script.specs.declared.rejection.Rejection.TheVariants.{Refused}
use Rattle.script.specs.declared.report.items.Row.{Row}
use Rattle.script.specs.declared.report.items.Tally.{Tally}

-- the pairs of s with the sections below n
abbrev pub pairs_with : ℕ → ℕ → List (ℕ × ℕ)
pairs_with n s = map (λ t. (s, t)) (range_with_len 0 n)

-- the pairs of sections below n, by the first section and then the second
abbrev pub pairs : ℕ → List (ℕ × ℕ)
pairs n = flat_map (pairs_with n) (range_with_len 0 n)

module _ {F : Type 0} (m : Meaning F) (σ : State) where
  -- the row of a pair: its entries, and what they say
  abbrev pub row_of : ℕ × ℕ → Row
  row_of (s, t) = record { s = s; t = t; lower = σ.lower s t; upper = σ.upper s t; verdict = verdict_of (m.apart s t) (σ.lower s t == σ.upper s t) }

  -- the rows of all pairs of sections
  abbrev pub rows_of : List Row
  rows_of = map row_of (pairs m.sections)

abbrev pub same_verdict : Verdict → Verdict → Bool
same_verdict Apart Apart = true
same_verdict Settled Settled = true
same_verdict Open Open = true
same_verdict _ _ = false

-- how many of the rows have a verdict
abbrev pub count_of : Verdict → List Row → ℕ
count_of v rows = count_by (λ row. same_verdict row.verdict v) rows

abbrev pub tally_of : List Row → Tally
tally_of rows = record { apart = count_of Apart rows; settled = count_of Settled rows; «open» = count_of Open rows }

-- what a command comes to is the answer of an accepted call; that of a weighing is not
abbrev pub is_accepted : {F : Type 0} → Result Answer (Rejection F) → Bool
is_accepted (Ok (Count _)) = true
is_accepted (Ok (Entries _ _ _)) = true
is_accepted _ = false

-- what a command comes to is the refusal of a call; the fault of a weighing is not
abbrev pub is_refused : {F : Type 0} → Result Answer (Rejection F) → Bool
is_refused (Err (Refused _)) = true
is_refused _ = false

-- one more where it is so, up to the most that 64 bits hold
abbrev pub counted : Bool → ℕ → ℕ
counted true n = min (n + 1) (2 ^ 64 - 1)
counted false n = n
