use Rattle.std.proofs.Common.{◌≡◌, ℕ, ◌<◌, false, pos, ◌+ℤ◌, ◌≤ℤ◌}
use Rattle.std.specs.List.{slice_index}
use Rattle.chart.specs.Words.{word}
use Rattle.weighted.proofs.charts.potentials.weighing.row_fits.Given as goal

-- before v no sum is above its entry
abbrev pub invariant-loop-v : goal.invariant-loop-v
invariant-loop-v l = l.above ≡ false → (k : ℕ) → k < l.v → (l.alpha +ℤ word l.bounds k) ≤ℤ pos (slice_index l.row k)
