use Rattle.std.proofs.Common.{◌∙◌, arith}
use Rattle.claims.proofs.Counts.{claims_counted}
use Rattle.claims.proofs.draft.Claims.count.Goals as goal

pub returns : goal.returns
returns c = let d = c.args.self.now in d.counted ∙ claims_counted d.values (omega arith)
