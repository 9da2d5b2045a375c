-- The test that a word is within bounds.
use Rattle.std.proofs.Common.{◌≡◌, false, ℤ, sym}
use lib.Signed.{lt_z}
use borrow.Author.Differences.{lt-false, false_is_lt, le_out, at_most_in}
use Rattle.std.proofs.lemmas.Bool.{or_from, or_parts}
use Rattle.chart.specs.Words.{Between, outside}

module _ (low high z : ℤ) where
  pub between_outside : Between low high z → outside low high z ≡ false
  between_outside h = or_from _ _ (sym (false_is_lt z low (le_out low z h.0))) (sym (false_is_lt high z (le_out z high h.1)))

  pub outside_between : outside low high z ≡ false → Between low high z
  outside_between e =
      let o = or_parts (lt_z z low) (lt_z high z) e in
      (at_most_in low z (lt-false z low o.0), at_most_in z high (lt-false high z o.1))
