use Rattle.std.proofs.Common.{◌≡◌, ◌++◌, map}
use Rattle.std.specs.List.{flat_map, range_with_len}
use Rattle.register.specs.Held.{chart_of, held}
use Rattle.script.specs.Report.{row_of, pairs_with}
use Rattle.script.proofs.report.rows.Given as goal

abbrev pub invariant-loop-t : goal.invariant-loop-t
invariant-loop-t g l =
    l.rows.items ≡ map (row_of (g.C.Chart.meaning (chart_of l.register)) (held l.register)) (flat_map (pairs_with l.n) (range_with_len 0 l.s) ++ pairs_with l.t l.s)

abbrev pub invariant-loop-s : goal.invariant-loop-s
invariant-loop-s g l =
    l.rows.items ≡ map (row_of (g.C.Chart.meaning (chart_of l.register)) (held l.register)) (flat_map (pairs_with l.n) (range_with_len 0 l.s))
