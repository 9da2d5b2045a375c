-- Which two charts are sittings of one test.
use Rattle.std.specs.Prelude.{ℕ, ◌+◌, Bool, ◌&&◌, nat_eq, nat_le}
use Rattle.chart.specs.Meaning.{Meaning}

-- a word, and the words of both
abbrev pub longest : {P Q : Type 0} → Meaning P → Meaning Q → ℕ
longest m o = m.longest + o.longest + 1

-- as many sections, the same discount, and no showing above 2,000,000,000 words
abbrev pub fit : {P Q : Type 0} → Meaning P → Meaning Q → Bool
fit m o = nat_eq m.sections o.sections && (nat_eq m.numerator o.numerator && (nat_eq m.denominator o.denominator && nat_le (longest m o) 2000000000))
