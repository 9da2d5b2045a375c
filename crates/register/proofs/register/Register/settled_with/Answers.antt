use Rattle.history.proofs.Agreement.{agree_where_led, settled_agree}
use Rattle.register.specs.Held.{held}
use Rattle.register.proofs.Settled.{settled_alike}
use Rattle.register.proofs.register.Register.settled_with.Goals as goal

pub returns-clause-distance : goal.returns-clause-distance
returns-clause-distance g c =
    let here = c.args.self.now.contents in
    let there = c.args.other.now.contents in
    let top = here.tables.upper.top in
    let other = there.tables.upper.top in
    let agree = agree_where_led _ _ (g.met.C.Chart.lawful here.chart) (g.met.D.Chart.lawful there.chart) in
    rw (c.zip.ensures, c.settled.ensures, c.settled-2.ensures) (settled_alike _ _ _ _ (held c.args.self.now) (held c.args.other.now) c.args.s c.args.t (λ same. agree same _ _ (top.least, top.most) (other.least, other.most) _ _ c.args.self.now.reached c.args.other.now.reached))

pub returns-clause-agree : goal.returns-clause-agree
returns-clause-agree g c = settled_agree _ _ (g.met.C.Chart.lawful c.args.self.now.contents.chart) (g.met.D.Chart.lawful c.args.other.now.contents.chart)
