use Rattle.std.proofs.Common.{refl, sym, ◌∙◌, arith}
use Rattle.std.proofs.lemmas.Bool.{lt-ltb, le-ltb}
use Rattle.choice.proofs.Marks.{all_left, none_left, first_left, smaller, next_left, same_test}
use Rattle.choice.proofs.charts.Choice.find_below.Goals as goal

pub loop-rest-init : goal.loop-rest-init
loop-rest-init c = rw c.mask-rest.ensures (all_left _ _ (rw (← c.mask-rest.ensures) c.mask-rest.type_inv))

pub returns-then-entry-potentials : goal.returns-then-entry-potentials
returns-then-entry-potentials c =
    first_left _ _ c.loop-rest.rest c.loop-rest.invariant (omega (arith, c.loop-rest-test.true)) (lt-ltb _ _ (rw (← c.entry.ensures) c.if-entry-potentials.true))
    ∙ sym (same_test c.args.self.now c.args.other _ refl _)

pub loop-rest-smaller : goal.loop-rest-smaller
loop-rest-smaller c = smaller _ _ c.loop-rest.rest c.loop-rest.invariant (omega (arith, c.loop-rest-test.true))

pub loop-rest-preserved : goal.loop-rest-preserved
loop-rest-preserved c =
    next_left _ _ c.loop-rest.rest c.loop-rest.invariant (omega (arith, c.loop-rest-test.true)) (le-ltb _ _ (rw (← c.entry.ensures) c.if-entry-potentials.false))

pub returns : goal.returns
returns c = none_left _ _ (rw c.loop-rest-test.false at c.loop-rest.invariant) ∙ sym (same_test c.args.self.now c.args.other _ refl _)
