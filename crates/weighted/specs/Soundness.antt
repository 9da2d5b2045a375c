-- The chain of a weighted chart is sound.
use Rattle.chain.specs.Chain.{Sound}
use Rattle.weighted.specs.declared.charts.Weighted.{Weighted}
use Rattle.weighted.specs.View.{chain}

pub sound : (w : Weighted) → Sound (chain w)
sound w = record {
  n_least = w.n_least;
  n_most = w.n_most;
  a_least = w.a_least;
  a_most = w.a_most;
  b_most = w.b_most;
  whole_least = w.whole_least;
  whole_most = w.whole_most;
  rows = w.adds_up;
}
