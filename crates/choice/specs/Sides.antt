-- The number of a side of a pair.
use Rattle.std.specs.Prelude.{ℕ}
use Rattle.choice.specs.declared.charts.potentials.PairSide.{PairSide}
use Rattle.choice.specs.declared.charts.potentials.PairSide.TheVariants.{First, Second}

abbrev pub number : PairSide → ℕ
number First = 0
number Second = 1
