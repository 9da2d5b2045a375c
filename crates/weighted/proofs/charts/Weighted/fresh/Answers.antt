use Rattle.std.proofs.Common.{◌≡◌, ℕ, zero, suc, cond, ◌&&◌, eqb, ◌∷◌, get_or, replicate, refl, arith}
use Rattle.std.proofs.lemmas.Bool.{ne_eqb}
use Rattle.weighted.specs.Rows.{entry_at}
use Rattle.weighted.proofs.charts.Weighted.fresh.Goals as goal

zeros : (n k : ℕ) → ◌≡◌ {A = ℕ} (get_or (replicate n 0) k 0) 0
zeros zero k = refl
zeros (suc n) zero = refl
zeros (suc n) (suc k) = zeros n k

rows_zero : (n s u : ℕ) → ◌≡◌ {A = ℕ} (entry_at (replicate n (replicate 32 0)) s u) 0
rows_zero zero s u = refl
rows_zero (suc n) zero u = zeros 32 u
rows_zero (suc n) (suc s) u = rows_zero n s u

one_at : (s u : ℕ) → entry_at ((1 ∷ replicate 31 0) ∷ replicate 31 (replicate 32 0)) s u ≡ cond (eqb s 0 && eqb u 0) 1 0
one_at zero zero = refl
one_at zero (suc u) = rw (ne_eqb (suc u) 0 (λ e. omega arith)) (zeros 31 u)
one_at (suc s) u = rw (ne_eqb (suc s) 0 (λ e. omega arith)) (rows_zero 31 s u)

pub returns : goal.returns
returns c = λ i. record { n = 1; a = 1; b = 2; whole = 1; band = λ s. zeros 32 s i; part = λ s u. one_at s u i }
