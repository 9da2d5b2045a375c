use Rattle.std.proofs.Common.{None}
use Rattle.claims.proofs.Grids.{grid_same}
use Rattle.claims.proofs.draft.Claims.new.Goals as goal

pub returns-clause-empty : goal.returns-clause-empty
returns-clause-empty c = grid_same 1024 None
