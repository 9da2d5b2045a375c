-- How a side, and why a number is no top, are written; and a form of text that the faults share.
use Rattle.std.specs.Prelude.{ℕ, List, ◌++◌, codes, decimal}
use Rattle.chart.specs.declared.side.Side.{Side}
use Rattle.chart.specs.declared.side.Side.TheVariants.{Upper, Lower}
use Rattle.chart.specs.declared.top.TopRefusal.{TopRefusal}
use Rattle.chart.specs.declared.top.TopRefusal.TheVariants.{OutOfRange}

abbrev pub side_text : Side → List ℕ
side_text Upper = codes "upper"
side_text Lower = codes "lower"

-- the number of the refusal, and what is wrong in words
abbrev pub top_refusal_text : TopRefusal → List ℕ
top_refusal_text OutOfRange = codes "11 (the top is not a whole number from 1 to 1,000,000,000)"

-- a text with the same number in two places
abbrev pub twice : List ℕ → ℕ → List ℕ → List ℕ → List ℕ
twice before k between after = before ++ (decimal k ++ (between ++ (decimal k ++ after)))
