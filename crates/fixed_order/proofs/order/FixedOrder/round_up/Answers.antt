use Rattle.std.proofs.Common.{◌*◌, ◌∙◌, arith}
use Rattle.finite.proofs.Quotients.{ceil_is}
use Rattle.fixed_order.proofs.order.FixedOrder.round_up.Goals as goal

pub returns : goal.returns
returns c =
    let w = c.args.self.now in
    c.div_ceil.ensures ∙ rw (c.from.ensures, c.from-2.ensures, c.from-3.ensures) (ceil_is (w.a * c.args.entry) w.b (omega arith))
