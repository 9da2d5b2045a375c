use Rattle.std.proofs.Common.{◌*◌, ◌/◌, ◌≤◌, mul-le-mul, arith}
use native.Mathlib.Nat.{div-le_of_le-mul}
use borrow.Author.Differences.{ints}
use Rattle.weighted.proofs.charts.Weighted.round_down.Goals as goal

pub overflow_cast-result : goal.overflow_cast-result
overflow_cast-result c =
    let w = c.args.self.now in
    let few : c.unwrap_or-gain.result ≤ 2000000000 * w.whole = grind (arith, ints) in
    let less : w.a ≤ w.b = omega arith in
    let below : w.a * c.unwrap_or-gain.result / (w.b * w.whole) ≤ 2000000000 = div-le_of_le-mul (w.b * w.whole) (omega (arith, mul-le-mul less few)) in
    rw (c.from.ensures, c.scale.ensures) (omega arith)
