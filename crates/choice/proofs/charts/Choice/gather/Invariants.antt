use Rattle.std.proofs.Common.{◌≡◌}
use Rattle.finite.specs.Sums.{greatest}
use Rattle.chart.specs.Tables.{distances}
use Rattle.transitions.specs.Pairing.{left, right}
use Rattle.choice.proofs.Scan.{Clear}
use Rattle.choice.specs.View.{system}
use Rattle.choice.proofs.Marks.{Marked}
use Rattle.choice.proofs.charts.Choice.gather.Given as goal

abbrev pub invariant-loop-j : goal.invariant-loop-j
invariant-loop-j l = record {
  clear : Clear (system l.self) l.s l.t l.words l.j;
  lefts : Marked l.left (left l.words) l.j;
  rights : Marked l.right (right l.words) l.j;
  most : l.greatest ≡ greatest l.j (λ j. (distances l.d).entry (left l.words j) (right l.words j));
}
