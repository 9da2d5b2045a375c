-- The least claim that a pairing shows, and the greatest that potentials show: the discounted sum, rounded.
use Rattle.std.proofs.Common.{ℕ, suc, ◌+◌, ◌-◌, ◌*◌, ◌/◌, ◌<◌, ◌≤◌, arith}
use native.Mathlib.Nat.{mul-div-le, div-add-mod}
use Rattle.std.proofs.lemmas.Nat.{le-div, div_below, mod_below}
use Rattle.chart.specs.declared.side.Side.TheVariants.{Upper, Lower}
use Rattle.chart.specs.Weighing.{Strongest}

module _ (a B : ℕ) (some : 0 < B) (S : ℕ) where
  -- rounded up
  pub least_shown : Strongest Upper (λ claim. a * S ≤ B * claim) ((a * S + (B - 1)) / B)
  least_shown = record {
    shown = omega (arith, div-add-mod (a * S + (B - 1)) B, mod_below (a * S + (B - 1)) B some);
    others = λ claim h. let l : (a * S + (B - 1)) / B < suc claim = div_below (a * S + (B - 1)) B (suc claim) some (omega arith) in omega arith;
  }

  -- rounded down
  pub greatest_shown : Strongest Lower (λ claim. B * claim ≤ a * S) (a * S / B)
  greatest_shown = record {
    shown = omega (arith, mul-div-le (a * S) B);
    others = λ claim h. le-div claim (a * S) B some (omega arith);
  }
