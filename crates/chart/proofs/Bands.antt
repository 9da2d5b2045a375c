-- Which pairs a chart with bands judges.
use Rattle.std.proofs.Common.{◌≡◌, ℕ, true, false, refl, sym, ◌∙◌, arith}
use Rattle.std.proofs.lemmas.Bool.{true_from_ne_false, not-false, eqb-true, eq-eqb, not_from_true, lt-ltb}
use Rattle.std.proofs.lemmas.Bool.Decides.{nat_tests}
use Rattle.chart.specs.Meaning.{Meaning, Judged}
use Rattle.chart.specs.Bands.{parted, Judges, unjudged}

pub parted_self : (band : ℕ → ℕ) (s : ℕ) → parted band s s ≡ false
parted_self band s = not_from_true _ (eq-eqb (band s) (band s) refl)

module _ (n : ℕ) (band : ℕ → ℕ) (s t : ℕ) where
  pub judges_from : unjudged n band s t ≡ false → Judges n band s t
  judges_from e = record { first_in = grind (arith, nat_tests); second_in = grind (arith, nat_tests); alike = grind (arith, nat_tests) }

  pub judges_to : Judges n band s t → unjudged n band s t ≡ false
  judges_to j = rw (lt-ltb s n j.first_in, lt-ltb t n j.second_in, eq-eqb (band s) (band t) j.alike)

-- a meaning in which sections are apart by their bands
module _ {F : Type 0} (m : Meaning F) (band : ℕ → ℕ) (bands : (s t : ℕ) → m.apart s t ≡ parted band s t) (s t : ℕ) where
  pub judged_of : Judges m.sections band s t → Judged m s t
  judged_of j = record { first_in = j.first_in; second_in = j.second_in; together = bands s t ∙ not_from_true _ (eq-eqb _ _ j.alike) }

  pub judges_of : Judged m s t → Judges m.sections band s t
  judges_of j = record { first_in = j.first_in; second_in = j.second_in; alike = eqb-true _ _ (not-false _ (sym (bands s t) ∙ j.together)) }

  pub is_unjudged : (Judged m s t → ⊥) → unjudged m.sections band s t ≡ true
  is_unjudged h = true_from_ne_false (unjudged m.sections band s t) (λ e. h (judged_of (judges_from m.sections band s t e)))
