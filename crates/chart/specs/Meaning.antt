-- What a chart of any kind means.
use Rattle.std.specs.Prelude.{◌≡◌, ℕ, ◌<◌, Bool, false, List, ℤ, pos, negsuc, Result}
use Rattle.chart.specs.declared.side.Side.{Side}
use Rattle.chart.specs.Distances.{Distances}

-- a signed 32-bit word; a showing is a list of them
abbrev pub Word : ℤ → Type 0
Word (pos n) = n < 2147483648
Word (negsuc n) = n < 2147483648

-- F is the kind's type of faults; a showing is a list of whole numbers, on the upper side a pairing, on the lower side potentials
pub record Meaning (F : Type 0) : Type 1 where
  pub sections : ℕ  -- they are the numbers below this
  pub numerator : ℕ  -- the discount is numerator / denominator
  pub denominator : ℕ
  pub longest : ℕ  -- no valid showing has more words
  pub apart : ℕ → ℕ → Bool
  pub valid : Side → Distances → ℕ → ℕ → List ℤ → Type 0
  pub shows : Side → Distances → ℕ → ℕ → List ℤ → ℕ → Type 0
  pub weigh : Side → Distances → ℕ → ℕ → List ℤ → Result ℕ F
  pub numbers : F → List ℕ  -- a fault's number, and what it carries

module _ {F : Type 0} (m : Meaning F) where
  -- two sections that are not apart
  pub record Judged (s t : ℕ) : Type 0 where
    pub first_in : s < m.sections
    pub second_in : t < m.sections
    pub together : m.apart s t ≡ false

  -- a valid showing, and a claim that it shows for (s, t) in a table
  pub record Shown (side : Side) (d : Distances) (s t : ℕ) (ws : List ℤ) (c : ℕ) : Type 0 where
    pub valid : m.valid side d s t ws
    pub shows : m.shows side d s t ws c
