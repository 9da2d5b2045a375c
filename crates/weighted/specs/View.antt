-- The Markov chain that a weighted chart of the code stands for.
use Rattle.std.specs.Prelude.{slice_index}
use Rattle.chain.specs.Chain.{Chain}
use Rattle.weighted.specs.declared.charts.Weighted.{Weighted}
use Rattle.weighted.specs.Rows.{entry_at}

abbrev pub chain : Weighted → Chain
chain w = record { n = w.n; a = w.a; b = w.b; whole = w.whole; band = λ s. slice_index w.bands s; part = entry_at w.rows }
