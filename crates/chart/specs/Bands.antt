-- Charts that have the numbers below n as sections, and a band for each of them.
use Rattle.std.specs.Prelude.{◌≡◌, ℕ, ◌<◌, Bool, not, ◌||◌, ◌==◌, nat_lt}

-- two sections are apart if their bands differ
abbrev pub parted : (ℕ → ℕ) → ℕ → ℕ → Bool
parted band s t = not (band s == band t)

-- two sections of one band
pub record Judges (n : ℕ) (band : ℕ → ℕ) (s t : ℕ) : Type 0 where
  pub first_in : s < n
  pub second_in : t < n
  pub alike : band s ≡ band t

-- whether two numbers are not two sections of one band
abbrev pub unjudged : ℕ → (ℕ → ℕ) → ℕ → ℕ → Bool
unjudged n band s t = not (nat_lt s n) || (not (nat_lt t n) || parted band s t)
