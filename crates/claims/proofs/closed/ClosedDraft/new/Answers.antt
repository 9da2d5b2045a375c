use Rattle.std.proofs.Common.{◌≡◌, false, length, rules, sym, ◌∙◌}
use Rattle.claims.proofs.Counts.{claims_counted, unmarked_none}
use Rattle.claims.proofs.Grids.{grid_same}
use Rattle.claims.proofs.closed.ClosedDraft.new.Goals as goal

pub invariant_of-result : goal.invariant_of-result
invariant_of-result c =
    let vs = c.args.claims.values in
    let long : length vs ≡ 1024 = search rules in
    record { counted = c.count.ensures ∙ sym (claims_counted vs long) ∙ sym (unmarked_none vs 1024 long) }

pub returns-clause-none : goal.returns-clause-none
returns-clause-none c = grid_same 1024 false
