-- How the answer to a command, or why it gets none, is written; and how the report is.
use Rattle.std.specs.Prelude.{ℕ, List, [], ◌∷◌, ◌++◌, Some, Ok, Err, codes, decimal, Option, Result}
use Rattle.std.specs.Fmt.{option_append}
use Rattle.history.specs.Lines.{line, verdict_text}
use Rattle.commands.specs.declared.command.Command.{Command}
use Rattle.commands.specs.Texts.{command_text}
use Rattle.script.specs.declared.answer.Answer.{Answer}
use Rattle.script.specs.declared.answer.Answer.TheVariants.{Count, Entries, Claim}
use Rattle.script.specs.declared.report.items.Row.{Row}
use Rattle.script.specs.declared.report.items.Outcomes.{Outcomes}
use Rattle.script.specs.declared.report.items.Tally.{Tally}
use Rattle.script.specs.declared.rejection.Rejection.{Rejection}
use Rattle.script.specs.Report.{tally_of}
use Rattle.script.specs.declared.rejection.Rejection.TheVariants.{Refused, Fault}

abbrev pub answer_text : Answer → List ℕ
answer_text (Count n) = codes "= " ++ decimal n
answer_text (Entries l u v) = codes "= " ++ (decimal l ++ (codes " " ++ (decimal u ++ (codes " " ++ verdict_text v))))
answer_text (Claim c) = codes "= " ++ decimal c

-- the first argument tells what is written of a fault
abbrev pub rejection_text : {F : Type 0} → (F → Option (List ℕ)) → Rejection F → Option (List ℕ)
rejection_text fault (Refused r) = option_append (Some (codes "refused ")) (line fault r)
rejection_text fault (Fault f) = option_append (Some (codes "fault ")) (fault f)

abbrev pub row_text : Row → List ℕ
row_text r = decimal r.s ++ (codes " " ++ (decimal r.t ++ (codes " " ++ (decimal r.lower ++ (codes " " ++ (decimal r.upper ++ (codes " " ++ verdict_text r.verdict)))))))

abbrev pub outcomes_text : Outcomes → List ℕ
outcomes_text n = codes "calls: " ++ (decimal n.accepted ++ (codes " accepted, " ++ (decimal n.refused ++ codes " refused")))

abbrev pub tally_text : Tally → List ℕ
tally_text n = codes "pairs: " ++ (decimal n.apart ++ (codes " apart, " ++ (decimal n.settled ++ (codes " settled, " ++ (decimal n.open ++ codes " open")))))

-- a command and what it comes to, with the end of the line
abbrev pub outcome_line : {F : Type 0} → (F → Option (List ℕ)) → Command → Result Answer (Rejection F) → Option (List ℕ)
outcome_line fault c (Ok a) = Some (command_text c ++ (codes " " ++ (answer_text a ++ codes "\n")))
outcome_line fault c (Err r) = option_append (Some (command_text c ++ codes " ")) (option_append (rejection_text fault r) (Some (codes "\n")))

-- the rows of the report, a line each
abbrev pub rows_text : List Row → List ℕ
rows_text [] = []
rows_text (r ∷ rs) = (row_text r ++ codes "\n") ++ rows_text rs

-- the report: a line for each row, one with the calls, and one with the tally of the rows
abbrev pub report_text : List Row → Outcomes → List ℕ
report_text rows n = rows_text rows ++ (outcomes_text n ++ codes "\n") ++ (tally_text (tally_of rows) ++ codes "\n")
