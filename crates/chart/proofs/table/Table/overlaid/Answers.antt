use Rattle.std.proofs.Common.{rules, get_or, None}
use Rattle.std.proofs.lemmas.Bool.{lt-ltb}
use Rattle.chart.specs.Tables.{capped, distances, overlaid}
use Rattle.chart.proofs.Bounds.{capped_most}
use Rattle.chart.proofs.Cells.{made_bounded, made_table}
use Rattle.chart.proofs.table.Table.overlaid.Goals as goal

pub invariant_of-result : goal.invariant_of-result
invariant_of-result c =
    let d = c.args.self.now in
    record { bounded = made_bounded c.from_fn.ensures.items _ (λ k y q call. search rules) d.top.value (λ k. capped_most (get_or c.args.values.now k None) (get_or d.cells k 0) d.top.value (d.bounded k)) }

pub returns : goal.returns
returns c =
    let d = c.args.self.now in
    let vs = c.args.values.now in
    made_table c.from_fn.ensures.items (λ k. capped (get_or vs k None) (get_or d.cells k 0) d.top.value) (λ k y q call. search rules) d.top.value
    (overlaid vs (distances d)).entry (λ s t hs ht. rw (lt-ltb s 32 hs, lt-ltb t 32 ht)) (λ s t e. rw e)
