use Rattle.register.proofs.Laying.{laid_at_close}
use Rattle.register.proofs.tables.Tables.close.Goals as goal

pub returns-clause-laid : goal.returns-clause-laid
returns-clause-laid c = laid_at_close c.args.self.now c.args.claims c.side.result c.of.result.now c.new.result c.requires c.side.ensures c.of.ensures c.new.ensures.same c.new.ensures.laid
