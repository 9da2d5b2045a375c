-- A choice chart: from each section a candidate goes on to one of a non-empty set of sections, by choice and not by chance.
-- It is a finite transition system with a band for each of its states, and a discount.
use Rattle.std.specs.Prelude.{◌≡◌, ℕ, ◌<◌, ◌≤◌, Bool, true, ◌&&◌, nat_lt}

pub record System : Type 0 where
  pub n : ℕ  -- the sections are the numbers below n
  pub a : ℕ  -- the discount is a / b
  pub b : ℕ
  pub band : ℕ → ℕ
  pub leads : ℕ → ℕ → Bool  -- whether one may go on from the first to the second

-- u is a successor of s
abbrev pub successor : System → ℕ → ℕ → Bool
successor c s u = nat_lt u c.n && c.leads s u

pub record Sound (c : System) : Type 0 where
  pub n_least : 1 ≤ c.n
  pub n_most : c.n ≤ 32
  pub a_least : 1 ≤ c.a
  pub a_most : c.a < c.b
  pub b_most : c.b ≤ 1000
  pub goes_on : (s : ℕ) → s < c.n → (u : ℕ) × (successor c s u ≡ true)
