use Rattle.std.proofs.Common.{ap}
use Rattle.chart.specs.Distances.{Distances}
use Rattle.history.specs.Rules.{resting}
use Rattle.history.proofs.Histories.{begun}
use Rattle.history.proofs.Promises.{keeps_promise}
use Rattle.register.proofs.States.{same_entries}
use Rattle.register.proofs.register.Register.new.Goals as goal

pub invariant_of-result-2 : goal.invariant_of-result-2
invariant_of-result-2 g c =
    let tables = c.starting-tables.ensures in
    record { reached = begun _ _ _ _ (ap (λ (d : Distances). d.top) tables.upper) (same_entries resting _ _ _ _ (ap (λ (d : Distances). d.entry) tables.upper) (ap (λ (d : Distances). d.entry) tables.lower)) }

pub returns-clause-fresh : goal.returns-clause-fresh
returns-clause-fresh g c = same_entries resting _ _ _ _ (ap (λ (d : Distances). d.entry) c.starting-tables.ensures.upper) (ap (λ (d : Distances). d.entry) c.starting-tables.ensures.lower)

pub returns-clause-promise : goal.returns-clause-promise
returns-clause-promise g c =
    let tables = c.starting-tables.ensures in
    let top = c.starting-tables.result.upper.top in
    keeps_promise _ (g.met.C.Chart.lawful c.args.chart) _ (top.least, top.most) _
    (begun _ _ _ _ (ap (λ (d : Distances). d.top) tables.upper) (same_entries resting _ _ _ _ (ap (λ (d : Distances). d.entry) tables.upper) (ap (λ (d : Distances). d.entry) tables.lower)))
