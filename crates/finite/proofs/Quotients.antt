-- Quotients rounded up.
use Rattle.std.proofs.Common.{◌≡◌, ℕ, ◌+◌, ◌-◌, ◌*◌, ◌/◌, ◌%◌, ◌<◌, min, sym, arith}
use Rattle.std.proofs.lemmas.Grind.{div_ceil_times}
use Rattle.std.proofs.lemmas.Nat.{div-mul-add}

-- a quotient rounded up, by its whole part and its rest
pub ceil_is : (x y : ℕ) → 0 < y → x / y + min 1 (x % y) ≡ (x + (y - 1)) / y
ceil_is x y some =
    let r = x / y + min 1 (x % y) in
    let near = div_ceil_times x y some in
    let sum : x + (y - 1) ≡ r * y + (x + (y - 1) - r * y) = omega arith in
    sym (rw sum (div-mul-add r y (x + (y - 1) - r * y) (omega arith)))
