use Rattle.std.proofs.Common.{rules, true, false, arith}
use Rattle.claims.proofs.closed.ClosedDraft.mark.Goals.{then-waits, else-waits}
use Rattle.claims.proofs.Counts.{unmarked_set}
use Rattle.claims.proofs.Grids.{grid_set}
use Rattle.claims.proofs.closed.ClosedDraft.mark.Goals as goal

pub overflow_sub-self : goal.overflow_sub-self
overflow_sub-self c =
    let d = c.args.self.now in
    let less = unmarked_set d.claims.values d.shown c.args.s c.args.t c.in-Some.i c.waits.result c.in-Some.ensures.index (search rules) (search rules) c.waits.ensures in
    omega (arith, d.counted, rw c.if-waits.true at less)

pub invariant_of-self : goal.invariant_of-self
invariant_of-self c =
    let d = c.args.self.now in
    let less = unmarked_set d.claims.values d.shown c.args.s c.args.t c.in-Some.i c.waits.result c.in-Some.ensures.index (search rules) (search rules) c.waits.ensures in
    elim c.if-waits.branch [
      | then-waits w ↦ record { counted = rw w.self-is (omega (arith, d.counted, rw w.if-waits.true at less)) }
      | else-waits w ↦ record { counted = rw w.self-is (omega (arith, d.counted, rw w.if-waits.false at less)) }
    ]

pub returns-after-waits-clause-inside : goal.returns-after-waits-clause-inside
returns-after-waits-clause-inside c = λ hs ht. grid_set false c.args.self.now.shown _ _ c.in-Some.i true c.in-Some.ensures.index (search rules)
