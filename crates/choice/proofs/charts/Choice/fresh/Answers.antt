use Rattle.std.proofs.Common.{◌≡◌, ℕ, zero, suc, ◌^◌, ◌<◌, ◌&&◌, eqb, false, ◌∷◌, get_or, replicate, refl, ap, ◌∙◌, arith}
use Rattle.std.proofs.lemmas.Bool.{ne_eqb}
use Rattle.std.proofs.lemmas.Nat.{pow_pos}
use Rattle.std.proofs.Math.Nat.{div-eq_of_lt}
use Rattle.std.proofs.Math.Pow.{pow-lt}
use Rattle.choice.specs.View.{marks}
use Rattle.choice.proofs.charts.Choice.fresh.Goals as goal

zeros : (n k : ℕ) → ◌≡◌ {A = ℕ} (get_or (replicate n 0) k 0) 0
zeros zero k = refl
zeros (suc n) zero = refl
zeros (suc n) (suc k) = zeros n k

-- a number below 2 ^ u has no bit of that value
unmarked : (mask u : ℕ) → mask < 2 ^ u → marks mask u ≡ false
unmarked mask u small = rw (div-eq_of_lt small) refl

one_marked : (s u : ℕ) → marks (get_or (1 ∷ replicate 31 0) s 0) u ≡ (eqb s 0 && eqb u 0)
one_marked zero zero = refl
one_marked zero (suc u) = rw (ne_eqb (suc u) 0 (λ e. omega arith)) (unmarked 1 (suc u) (pow-lt {i = 0} {j = suc u} (omega arith)))
one_marked (suc s) u = rw (ne_eqb (suc s) 0 (λ e. omega arith)) (ap (λ mask. marks mask u) (zeros 31 s) ∙ unmarked 0 u (pow_pos u))

one_within : (s : ℕ) → get_or (1 ∷ replicate 31 0) s 0 < 2 ^ 1
one_within zero = omega arith
one_within (suc s) = rw (zeros 31 s) (omega arith)

pub invariant_of-result-clause-within : goal.invariant_of-result-clause-within
invariant_of-result-clause-within c = one_within

pub returns : goal.returns
returns c = λ i. record { n = 1; a = 1; b = 2; band = λ s. zeros 32 s i; leads = λ s u. one_marked s u i }
