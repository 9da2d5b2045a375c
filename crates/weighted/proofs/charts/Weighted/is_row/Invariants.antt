use Rattle.std.proofs.Common.{◌≡◌, ℕ, ◌<◌, false}
use Rattle.std.specs.List.{slice_index}
use Rattle.weighted.proofs.charts.Weighted.is_row.Given as goal

-- before u none differs
abbrev pub invariant-loop-u : goal.invariant-loop-u
invariant-loop-u l = l.differs ≡ false → (k : ℕ) → k < l.u → slice_index l.amounts k ≡ slice_index l.row k
