-- What a chart of a fixed order means. A showing has no words: the two sections that come next are paired, and there is nothing to choose.
use Rattle.std.specs.Prelude.{◌≡◌, ℕ, ◌+◌, ◌-◌, ◌*◌, ◌/◌, ◌≤◌, not, List, [], ◌∷◌, length, ℤ, Option, Result, ◌==◌}
use Rattle.finite.specs.Search.{given, first_of}
use Rattle.chart.specs.declared.side.Side.{Side}
use Rattle.chart.specs.declared.side.Side.TheVariants.{Upper, Lower}
use Rattle.chart.specs.Distances.{Distances}
use Rattle.chart.specs.Weighing.{answer}
use Rattle.chart.specs.Meaning.{Meaning}
use Rattle.chart.specs.Bands.{parted, Judges, unjudged}
use Rattle.fixed_order.specs.declared.fault.Fault.{Fault}
use Rattle.fixed_order.specs.declared.fault.Fault.TheVariants.{Unjudged, Words}
use Rattle.fixed_order.specs.Order.{Order}

-- a valid showing, on either side
pub record Valid (c : Order) (s t : ℕ) (ws : List ℤ) : Type 0 where
  pub judged : Judges c.n c.band s t
  pub wordless : length ws ≡ 0

-- the entry of the two sections that come next
abbrev pub following : Order → Distances → ℕ → ℕ → ℕ
following c d s t = d.entry (c.next s) (c.next t)

-- a pairing shows each claim that is at least the discounted entry, and potentials each that is at most that
abbrev pub Shows : Order → Side → ℕ → ℕ → Type 0
Shows c Upper entry claim = c.a * entry ≤ c.b * claim
Shows c Lower entry claim = c.b * claim ≤ c.a * entry

-- the least such claim, and the greatest
abbrev pub strongest : Order → Side → ℕ → ℕ
strongest c Upper entry = (c.a * entry + (c.b - 1)) / c.b
strongest c Lower entry = c.a * entry / c.b

-- the first check that fails, if one does
abbrev pub fault : Order → ℕ → ℕ → List ℤ → Option Fault
fault c s t ws = first_of (given (unjudged c.n c.band s t) Unjudged ∷ given (not (length ws == 0)) (Words (length ws)) ∷ [])

abbrev pub fault_numbers : Fault → List ℕ
fault_numbers Unjudged = 100 ∷ 0 ∷ []
fault_numbers (Words count) = 151 ∷ count ∷ []

abbrev pub means : Order → Meaning Fault
means c = record {
  sections = c.n;
  numerator = c.a;
  denominator = c.b;
  longest = 0;
  apart = parted c.band;
  valid = λ side d s t ws. Valid c s t ws;
  shows = λ side d s t ws claim. Shows c side (following c d s t) claim;
  weigh = λ side d s t ws. answer (fault c s t ws) (strongest c side (following c d s t));
  numbers = fault_numbers;
}
