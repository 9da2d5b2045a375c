use Rattle.std.proofs.Common.{◌∙◌, arith}
use Rattle.claims.proofs.Counts.{unshown_counted}
use Rattle.claims.proofs.closed.ClosedDraft.left.Goals as goal

pub returns : goal.returns
returns c = let d = c.args.self.now in d.counted ∙ unshown_counted d.claims.values d.shown (omega arith) (omega arith)
