use Rattle.std.proofs.Common.{◌≡◌, ◌*◌, ◌≤◌}
use Rattle.finite.specs.Sums.{sum}
use Rattle.chart.specs.Tables.{distances}
use Rattle.chain.specs.Pairing.{left, right, amount}
use Rattle.weighted.specs.View.{chain}
use Rattle.weighted.proofs.Tally.{Tallied}
use Rattle.weighted.proofs.Triples.{Clear}
use Rattle.weighted.proofs.charts.Weighted.weigh_pairing.Given as goal

abbrev pub invariant-loop-j : goal.invariant-loop-j
invariant-loop-j l = record {
  clear : Clear (chain l.self) l.words l.j;
  lefts : Tallied l.left (left l.words) (amount l.words) l.j;
  rights : Tallied l.right (right l.words) (amount l.words) l.j;
  total : l.total ≡ sum l.j (λ j. amount l.words j * (distances l.d).entry (left l.words j) (right l.words j));
  few : l.total ≤ l.j * 10000000000000;
}
