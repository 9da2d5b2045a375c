use Rattle.std.proofs.Common.{refl}
use Rattle.lines.specs.Fields.{fields}
use Rattle.lines.specs.Numerals.{digits_after}
use Rattle.lines.specs.Reading.{words_from}
use Rattle.cases.specs.Cases.{cases}
use Rattle.cases.proofs.Holding.{each}
use Rattle.cases.proofs.cases.worked_cases.Goals as goal

pub returns-clause-hold : goal.returns-clause-hold
returns-clause-hold c = each

pub returns-clause-ask : goal.returns-clause-ask
unfolding cases fields digits_after words_from
returns-clause-ask c = refl
