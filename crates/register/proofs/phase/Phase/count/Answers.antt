use Rattle.std.proofs.Common.{ap, sym, ◌∙◌}
use Rattle.history.specs.Rules.{claims}
use Rattle.claims.specs.Views.{values_of}
use Rattle.register.proofs.Playing.{counts}
use Rattle.register.proofs.phase.Phase.count.Goals as goal

pub returns-in-Resting : goal.returns-in-Resting
returns-in-Resting c = ap counts (sym c.in-Resting.is)

pub returns-in-Claiming : goal.returns-in-Claiming
returns-in-Claiming c = c.count.ensures ∙ ap counts (sym c.in-Claiming.is)

pub returns-in-Showing : goal.returns-in-Showing
returns-in-Showing c = c.count-in-Showing.ensures ∙ ap (λ x. claims (values_of x)) c.claims.ensures ∙ ap counts (sym c.in-Showing.is)
