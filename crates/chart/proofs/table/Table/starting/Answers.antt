use Rattle.std.proofs.Common.{rules, ◌/◌, ◌%◌}
use Rattle.std.proofs.lemmas.Nat.{div-mul-add, mod-mul-add}
use Rattle.chart.specs.Starting.{judged_pair, start_entry, start_table}
use Rattle.chart.proofs.Cells.{made_bounded, made_table}
use Rattle.chart.proofs.Starts.{start_bounded, start_outside}
use Rattle.chart.proofs.table.Table.starting.Goals as goal

pub invariant_of-result : goal.invariant_of-result
invariant_of-result g c =
    let judged = judged_pair (g.C.Chart.meaning c.args.chart.now) in
    record { bounded = made_bounded c.from_fn.ensures.items _ (λ k y q call. search rules) c.args.top.value (λ k. start_bounded c.args.side (judged (k / 32) (k % 32)) c.args.top.value) }

pub returns : goal.returns
returns g c =
    let m = g.C.Chart.meaning c.args.chart.now in
    let top = c.args.top.value in
    made_table c.from_fn.ensures.items (λ k. start_entry c.args.side (judged_pair m (k / 32) (k % 32)) top) (λ k y q call. search rules) top
    (start_table m c.args.side top).entry (λ s t hs ht. rw (div-mul-add s 32 t ht, mod-mul-add s 32 t ht))
    (start_outside m (g.met.C.Chart.lawful c.args.chart.now).sections_most c.args.side top)
