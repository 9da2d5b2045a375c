-- The triples of a pairing, as they are read.
use Rattle.std.specs.Prelude.{◌≡◌, ◌<◌, ◌≤◌, List, ℤ, None}
use Rattle.finite.specs.Search.{least}
use Rattle.chain.specs.Chain.{Chain}
use Rattle.chain.specs.Pairing.{left, right, amount, bad_word}
use Rattle.weighted.specs.declared.charts.pairing.Triple.{Triple}

-- the three words of a triple, which are good
pub record Reads (c : Chain) (ws : List ℤ) (r : Triple) : Type 0 where
  pub good : least 3 (bad_word c ws) ≡ None
  pub first : r.u ≡ left ws 0
  pub second : r.v ≡ right ws 0
  pub third : r.amount ≡ amount ws 0
  pub first_in : r.u < c.n
  pub second_in : r.v < c.n
  pub few : r.amount ≤ c.whole
