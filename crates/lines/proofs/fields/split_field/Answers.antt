use Rattle.std.proofs.Common.{arith, rules}
use Rattle.lines.proofs.Cuts.{none_starts, some_starts, field_stops}
use Rattle.lines.proofs.fields.split_field.Goals as goal

pub returns-in_err-first_not_blank : goal.returns-in_err-first_not_blank
returns-in_err-first_not_blank c = search (rules, none_starts)

pub returns : goal.returns
returns c = grind (arith, some_starts, field_stops)
