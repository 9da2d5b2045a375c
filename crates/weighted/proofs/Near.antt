-- Signed numbers within a bound of 0.
use Rattle.std.proofs.Common.{ℕ, zero, suc, ◌+◌, ◌*◌, ◌<◌, ◌≤◌, ℤ, pos, ◌*ℤ◌, mul-le-mul_left, arith}
use borrow.Author.Differences.{up, down, sum_is_lem, product_is}
use Rattle.finite.specs.Sums.{sum, sumℤ}

-- -m ≤ z ≤ m
abbrev pub Near : ℕ → ℤ → Type 0
Near m z = (up z ≤ down z + m) × (down z ≤ up z + m)

pub near_product : (p m : ℕ) (w : ℤ) → Near m w → Near (p * m) (pos p *ℤ w)
near_product p m w h = omega (arith, product_is (pos p) w, mul-le-mul_left p h.0, mul-le-mul_left p h.1)

pub near_sum : (n : ℕ) (g : ℕ → ℕ) (f : ℕ → ℤ) → ((i : ℕ) → i < n → Near (g i) (f i)) → Near (sum n g) (sumℤ n f)
near_sum zero g f h = omega arith
near_sum (suc n) g f h = omega (arith, near_sum n g f (λ i l. h i (omega arith)), h n (omega arith), sum_is_lem (sumℤ n f) (f n))
