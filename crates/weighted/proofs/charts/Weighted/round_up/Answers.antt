use Rattle.std.proofs.Common.{◌+◌, ◌-◌, ◌*◌, ◌<◌, ◌≤◌, mul-pos, mul-le-mul, ◌∙◌, arith}
use Rattle.std.proofs.lemmas.Nat.{div_below}
use Rattle.finite.proofs.Quotients.{ceil_is}
use Rattle.weighted.proofs.charts.Weighted.round_up.Goals as goal

some : (c : goal.After-div_ceil) → 0 < c.args.self.now.b * c.args.self.now.whole
some c = mul-pos (omega arith) (omega arith)

pub returns : goal.returns
returns c = c.div_ceil.ensures ∙ rw (c.from.ensures, c.scale.ensures) (ceil_is (c.args.self.now.a * c.args.total) (c.args.self.now.b * c.args.self.now.whole) (some c))

pub overflow_cast-result : goal.overflow_cast-result
overflow_cast-result c =
    let w = c.args.self.now in
    let less : w.a ≤ w.b = omega arith in
    let few = mul-le-mul less c.requires in
    let below = div_below (w.a * c.args.total + (w.b * w.whole - 1)) (w.b * w.whole) 1000000001 (some c) (omega (arith, some c)) in
    omega (arith, returns c)
