use Rattle.std.proofs.Common.{None, Some, rules}
use Rattle.claims.proofs.Grids.{grid_set, highest_set}
use Rattle.claims.proofs.draft.Claims.put.Goals as goal

pub returns-then-is_none-clause-inside : goal.returns-then-is_none-clause-inside
returns-then-is_none-clause-inside c = λ hs ht. rw c.replace.ensures.after (grid_set None c.args.self.now.values _ _ c.in-Some.i (Some c.args.value) c.in-Some.ensures.index (search rules))

pub returns-then-is_none-clause-most : goal.returns-then-is_none-clause-most
returns-then-is_none-clause-most c = rw c.replace.ensures.after (highest_set c.args.self.now.values c.in-Some.i c.args.value)

pub returns-else-is_none-clause-most : goal.returns-else-is_none-clause-most
returns-else-is_none-clause-most c = rw c.replace.ensures.after (highest_set c.args.self.now.values c.in-Some.i c.args.value)
