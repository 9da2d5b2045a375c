use Rattle.std.proofs.Common.{◌≤◌, length, rules}
use Rattle.finite.proofs.Lists.{sum_of_first}
use Rattle.weighted.proofs.charts.rows.adds_up.Goals as goal

pub returns : goal.returns
returns c =
    let n = c.args.file.now.header.sections in
    let row = c.args.row.now in
    let long : n ≤ length row = search rules in
    let added = sum_of_first (λ x. x) n row 0 long in
    search rules
