-- The greatest claim that potentials show, where their sum is signed.
use Rattle.std.proofs.Common.{◌≡◌, ℕ, ◌*◌, ◌/◌, ◌<◌, ◌⊎◌, ℤ, pos, negsuc, ◌*ℤ◌, ◌≤ℤ◌, inl, inr, ⊎_elim, arith}
use native.Mathlib.Nat.{zero-div}
use borrow.Author.Differences.{up, le_out, at_most_in, product_is}
use Rattle.chart.specs.declared.side.Side.TheVariants.{Lower}
use Rattle.chart.specs.Weighing.{Strongest}
use Rattle.chart.proofs.Claims.{greatest_shown}

module _ (a B : ℕ) (some : 0 < B) where
  -- rounded down, or 0 where the sum is negative
  pub signed_greatest_shown : (S : ℤ) → Strongest Lower (λ claim. (claim ≡ 0) ⊎ (pos (B * claim) ≤ℤ (pos a *ℤ S))) (a * up S / B)
  signed_greatest_shown S = record {
    shown = at S;
    others = λ claim. ⊎_elim (λ e. omega arith)
        (λ h. (greatest_shown a B some (up S)).others claim (omega (arith, le_out (pos (B * claim)) (pos a *ℤ S) h, product_is (pos a) S)));
  } where
    at : (S : ℤ) → ((a * up S / B ≡ 0) ⊎ (pos (B * (a * up S / B)) ≤ℤ (pos a *ℤ S)))
    at (pos x) = inr (at_most_in (pos (B * (a * x / B))) (pos (a * x)) (omega (arith, (greatest_shown a B some x).shown)))
    at (negsuc x) = inl (omega (arith, zero-div B))
