-- A chart of whatever kind, as its register sees it: what it tells, and what its weighings answer.
use Rattle.std.specs.Prelude.{ℕ, Bool, List, ℤ, Ok, Err, Result, IsOk}
use Rattle.chart.specs.declared.side.Side.{Side}
use Rattle.chart.specs.Distances.{Distances}
use Rattle.chart.specs.Weighing.{Weaker, fault_as}
use Rattle.chart.specs.Meaning.{Meaning}

pub record Told : Type 0 where
  pub sections : ℕ
  pub numerator : ℕ
  pub denominator : ℕ
  pub longest : ℕ
  pub apart : ℕ → ℕ → Bool
  pub weigh : Side → Distances → ℕ → ℕ → List ℤ → Result ℕ (List ℕ)  -- a fault stands as its numbers

-- a claim that asks no more than what is answered
abbrev pub NoStronger : Side → Result ℕ (List ℕ) → ℕ → Type 0
NoStronger side (Ok c) claim = Weaker side c claim
NoStronger side (Err f) claim = ⊥

-- What it means: a showing is valid if its weighing has an answer, and shows each claim that asks no more than that.
-- By its laws a chart of any kind means just this, of what it tells.
abbrev pub meaning_of : Told → Meaning (List ℕ)
meaning_of c = record {
  sections = c.sections;
  numerator = c.numerator;
  denominator = c.denominator;
  longest = c.longest;
  apart = c.apart;
  valid = λ side d s t ws. IsOk (c.weigh side d s t ws);
  shows = λ side d s t ws claim. NoStronger side (c.weigh side d s t ws) claim;
  weigh = c.weigh;
  numbers = λ f. f;
}

-- what a chart tells
abbrev pub told_of : {F : Type 0} → Meaning F → Told
told_of m = record {
  sections = m.sections;
  numerator = m.numerator;
  denominator = m.denominator;
  longest = m.longest;
  apart = m.apart;
  weigh = λ side d s t ws. fault_as m.numbers (m.weigh side d s t ws);
}
