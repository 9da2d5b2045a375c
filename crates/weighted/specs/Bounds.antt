-- Words that are no further from 0 than the greatest top.
use Rattle.std.specs.Prelude.{ℤ, pos, neg_ℤ}
use Rattle.chart.specs.Words.{Between}

abbrev pub Narrow : ℤ → Type 0
Narrow word = Between (neg_ℤ (pos 1000000000)) (pos 1000000000) word
