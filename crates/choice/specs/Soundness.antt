-- The transition system of a choice chart is sound.
use Rattle.std.specs.Prelude.{◌≡◌, ℕ, ◌<◌, true, slice_index}
use Rattle.std.specs.Int.{w32, trailing_zeros}
use Rattle.std.proofs.Common.{sym, ◌∙◌, ⊎_elim}
use Rattle.std.proofs.Math.Nat.{lt_of_lt_of_le, suc-ne-zero}
use Rattle.std.proofs.Math.Pow.{pow_mono}
use Rattle.std.proofs.lemmas.Bool.{cases_lt, lt-ltb, eq-eqb, and_from}
use Rattle.std.proofs.lemmas.Nat.Bits.{bit_at-trailing_zeros, bit_at_above}
use Rattle.transitions.specs.System.{Sound, successor}
use Rattle.choice.specs.declared.charts.Choice.{Choice}
use Rattle.choice.specs.View.{system}

-- the lowest bit that is set in the mask of a section stands for a successor
goes_on : (w : Choice) (s : ℕ) → s < w.n → (u : ℕ) × (successor (system w) s u ≡ true)
goes_on w s l =
    let mask : ℕ = slice_index w.masks s in
    let u : ℕ = trailing_zeros w32 mask in
    let (_, set, _) = bit_at-trailing_zeros w32 mask (w.goes_on s l) (lt_of_lt_of_le (w.within s) (pow_mono w.n_most)) in
    let inside : u < w.n = ⊎_elim (λ h. h) (λ h. absurd (suc-ne-zero 0 (sym set ∙ bit_at_above mask w.n u (w.within s) h))) (cases_lt u w.n) in
    (u, and_from _ _ (lt-ltb u w.n inside) (eq-eqb _ _ set))

pub sound : (w : Choice) → Sound (system w)
sound w = record {
  n_least = w.n_least;
  n_most = w.n_most;
  a_least = w.a_least;
  a_most = w.a_most;
  b_most = w.b_most;
  goes_on = goes_on w;
}
