use Rattle.std.proofs.Common.{◌∙◌}
use Rattle.claims.proofs.Grids.{laid_within}
use Rattle.claims.proofs.draft.Claims.over.Goals as goal

pub returns-clause-within : goal.returns-clause-within
returns-clause-within c = λ h. c.overlaid.ensures ∙ laid_within c.args.self.now.values c.args.table.now h
