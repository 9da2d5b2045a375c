use Rattle.std.proofs.Common.{◌≡◌, ℕ, ◌<◌, false, ltb}
use Rattle.std.specs.Int.RustNames.{unsigned_abs}
use Rattle.chart.specs.Words.{word}
use Rattle.weighted.proofs.charts.potentials.weighing.all_within.Given as goal

-- before i none is further from 0
abbrev pub invariant-loop-i : goal.invariant-loop-i
invariant-loop-i l = l.wide ≡ false → (k : ℕ) → k < l.i → ltb l.top (unsigned_abs (word l.words k)) ≡ false
