use Rattle.std.proofs.Common.{not, eqb, take, [], slice_index, ◌∙◌, rules, tests, arith}
use Rattle.std.proofs.lemmas.Iterator.{YieldsList-from_slice}
use Rattle.std.proofs.lemmas.Iterator.Search.{position_from_yields_List}
use Rattle.finite.specs.Sums.{sum}
use Rattle.finite.proofs.Lists.{position_in_first}
use Rattle.weighted.proofs.charts.rows.find_row.Goals as goal

pub returns : goal.returns
returns c =
    let header = c.args.file.now.header in
    let n = header.sections in
    let rows = c.args.rows.now in
    position_from_yields_List (λ row. not (eqb (sum n (λ u. slice_index row u)) header.whole)) _ _ _ c.position.ensures.ran (YieldsList-from_slice (take n rows) cc) (λ x b q k. search (rules, tests))
    ∙ position_in_first _ n rows [] (omega arith)
