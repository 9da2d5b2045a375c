use Rattle.std.proofs.Common.{◌≡◌, ℕ, ◌+◌, ◌*◌, ◌/◌, ◌%◌, ◌<◌, false, None}
use Rattle.chart.specs.Tables.{distances}
use Rattle.chain.specs.Potentials.{above}
use Rattle.weighted.specs.View.{chain}
use Rattle.weighted.proofs.charts.potentials.Potentials.find_above.Given as goal

-- no pair before (u, v) comes above its entry
abbrev pub invariant-loop-v : goal.invariant-loop-v
invariant-loop-v l =
    let o = l.self in
    let n = o.chart.now.n in
    (l.found ≡ None) × ((k : ℕ) → k < l.u * n + l.v → above (chain o.chart.now) (distances l.d) o.s o.t o.words.now (k / n) (k % n) ≡ false)

abbrev pub invariant-scan : goal.invariant-scan
invariant-scan l =
    let o = l.self in
    let n = o.chart.now.n in
    (l.found ≡ None) × ((k : ℕ) → k < l.u * n → above (chain o.chart.now) (distances l.d) o.s o.t o.words.now (k / n) (k % n) ≡ false)
