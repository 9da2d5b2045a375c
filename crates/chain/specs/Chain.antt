-- A weighted chart: a Markov chain in whole parts, a band for each of its states, and a discount.
use Rattle.std.specs.Prelude.{◌≡◌, ℕ, ◌<◌, ◌≤◌}
use Rattle.finite.specs.Sums.{sum}

pub record Chain : Type 0 where
  pub n : ℕ  -- the sections are the numbers below n
  pub a : ℕ  -- the discount is a / b
  pub b : ℕ
  pub whole : ℕ  -- P, what each row adds up to
  pub band : ℕ → ℕ
  pub part : ℕ → ℕ → ℕ  -- p(s, u): the chain goes from s to u with probability p(s, u) / P

pub record Sound (c : Chain) : Type 0 where
  pub n_least : 1 ≤ c.n
  pub n_most : c.n ≤ 32
  pub a_least : 1 ≤ c.a
  pub a_most : c.a < c.b
  pub b_most : c.b ≤ 1000
  pub whole_least : 1 ≤ c.whole
  pub whole_most : c.whole ≤ 10000
  pub rows : (s : ℕ) → s < c.n → sum c.n (c.part s) ≡ c.whole
