use Rattle.register.proofs.Kept.{kept}
use Rattle.script.proofs.play.play.Goals as goal

pub returns-in-Weigh-clause-promise : goal.returns-in-Weigh-clause-promise
returns-in-Weigh-clause-promise g c = kept c.args.register.now (g.met.C.Chart.lawful _)
