use Rattle.std.proofs.Common.{◌≡◌, ℕ, ◌+◌, ◌<◌, length}
use Rattle.chart.specs.Words.{word}
use Rattle.weighted.specs.View.{chain}
use Rattle.weighted.specs.Bounds.{Narrow}
use Rattle.weighted.proofs.charts.potentials.Potentials.bounds.Given as goal

-- before v the bounds are as they should be
abbrev pub invariant-loop-v : goal.invariant-loop-v
invariant-loop-v l =
    let n = l.self.chart.now.n in
    (length l.bounds ≡ 32) × ((k : ℕ) → Narrow (word l.bounds k)) × ((k : ℕ) → k < l.v → 0 < (chain l.self.chart.now).part l.self.t k → word l.bounds k ≡ word l.self.words.now (n + k))
