use Rattle.register.proofs.Kept.{led, kept_by}
use Rattle.register.proofs.register.Register.call.Goals as goal

pub invariant_of-self : goal.invariant_of-self
invariant_of-self g c =
    let call = c.call.ensures in
    record { reached = led {G = g.C.Chart} c.args.self.now.contents c.call.new.self c.args.self.now.reached call.chart call.top call.rule }

pub returns-clause-promise : goal.returns-clause-promise
returns-clause-promise g c =
    let call = c.call.ensures in
    kept_by {G = g.C.Chart} c.call.new.self (g.met.C.Chart.lawful _) (led {G = g.C.Chart} c.args.self.now.contents c.call.new.self c.args.self.now.reached call.chart call.top call.rule)
