use Rattle.register.proofs.Kept.{kept}
use Rattle.register.proofs.register.Register.ask.Goals as goal

pub returns-then-not-has_both-clause-promise : goal.returns-then-not-has_both-clause-promise
returns-then-not-has_both-clause-promise g c = kept c.args.self.now (g.met.C.Chart.lawful _)

pub returns-clause-promise : goal.returns-clause-promise
returns-clause-promise g c = kept c.args.self.now (g.met.C.Chart.lawful _)
