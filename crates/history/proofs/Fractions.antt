-- Fractions compared by whole numbers.
use Rattle.std.proofs.Common.{◌≡◌, ℕ, ◌*◌, ◌≤◌, ap, mul-le-mul_left, arith}
use native.Mathlib.Nat.{le_of_mul-le-mul_left}

-- if l / K ≤ y / T and y / T = x / J, then l / K ≤ x / J
pub at_most_equal : (l y x J K T : ℕ) → 1 ≤ T → l * T ≤ y * K → y * J ≡ x * T → l * J ≤ x * K
at_most_equal l y x J K T some under is =
    let times : T * (l * J) ≤ T * (x * K) = omega (arith, mul-le-mul_left J under, ap (λ z. z * K) is) in
    le_of_mul-le-mul_left times some
