use Rattle.std.proofs.Common.{◌≡◌, ◌*◌, length, pos, ◌*ℤ◌}
use Rattle.finite.specs.Sums.{sumℤ}
use Rattle.chart.specs.Words.{word}
use Rattle.weighted.specs.View.{chain}
use Rattle.weighted.proofs.Near.{Near}
use Rattle.weighted.proofs.charts.Weighted.weigh_row.Given as goal

abbrev pub invariant-loop-part : goal.invariant-loop-part
invariant-loop-part l =
    (l.sum ≡ sumℤ (length l.yielded) (λ u. pos ((chain l.self).part l.s u) *ℤ word l.words u))
    × Near (length l.yielded * 140735340871680) l.sum
