-- A test whose sections follow one another in a fixed order: a finite deterministic chain with a band for each of its states, and a discount.
use Rattle.std.specs.Prelude.{ℕ, ◌<◌, ◌≤◌, List, slice_index}

pub record Order : Type 0 where
  pub n : ℕ  -- the sections are the numbers below n
  pub a : ℕ  -- the discount is a / b
  pub b : ℕ
  pub band : ℕ → ℕ
  pub next : ℕ → ℕ  -- the section that comes after a section

-- the order of these numbers, bands and next sections
abbrev pub given : ℕ → ℕ → ℕ → List ℕ → List ℕ → Order
given n a b bands next = record { n = n; a = a; b = b; band = slice_index bands; next = slice_index next }

pub record Sound (c : Order) : Type 0 where
  pub n_least : 1 ≤ c.n
  pub n_most : c.n ≤ 32
  pub a_least : 1 ≤ c.a
  pub a_most : c.a < c.b
  pub b_most : c.b ≤ 1000
  pub next_in : (s : ℕ) → s < c.n → c.next s < c.n
