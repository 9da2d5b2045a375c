-- Values that may be claimed.
use Rattle.std.proofs.Common.{◌≡◌, ℕ, true, false, is_some, Some, None, Option, sym, refl, inl, inr, ⊎_elim, arith}
use Rattle.std.proofs.lemmas.Bool.{ltb-true, ltb-false, or_cases, or_parts}
use Rattle.chart.specs.declared.side.Side.{Side}
use Rattle.chart.specs.declared.side.Side.TheVariants.{Upper, Lower}
use Rattle.chart.specs.Meaning.{Meaning, Judged}
use Rattle.chart.proofs.Bounds.{entry_bounded}
use Rattle.history.specs.Rules.{Phase, side_of, Unfit}
use Rattle.history.proofs.Cases.{absurd_bool}
use Rattle.history.proofs.Sound.{Fits}
use Rattle.register.specs.declared.tables.Tables.{Tables}
use Rattle.register.specs.Tables.{top_in, state, unfit}

pub none_of : (o : Option ℕ) → false ≡ is_some o → o ≡ None
none_of None h = refl
none_of (Some v) h = absurd_bool refl (sym h)

module _ {F : Type 0} (m : Meaning F) (ts : Tables) (p : Phase) (s t v : ℕ) where
  unfit_true : (e : Side) → unfit e (top_in ts) (side_of e (state ts p) s t) v ≡ true → Unfit m (top_in ts) e (state ts p) s t v
  unfit_true Upper h = ltb-true _ _ h
  unfit_true Lower h = ⊎_elim (λ x. inl (ltb-true _ _ x)) (λ x. inr (ltb-true _ _ x)) (or_cases _ _ h)

  unfit_false : (e : Side) → Judged m s t → unfit e (top_in ts) (side_of e (state ts p) s t) v ≡ false → Fits m (top_in ts) e (side_of e (state ts p)) s t v
  unfit_false Upper j h = let le = ltb-false _ _ h in record { judged = j; tight = le; top = omega (arith, le, entry_bounded ts.upper s t) }
  unfit_false Lower j h = let (low, high) = or_parts _ _ h in record { judged = j; tight = ltb-false _ _ low; top = ltb-false _ _ high }

  -- the test of a value on the side x, which is e
  module _ (e x : Side) (same : x ≡ e) where
    pub tested_unfit : true ≡ unfit x (top_in ts) (side_of x (state ts p) s t) v → Unfit m (top_in ts) e (state ts p) s t v
    tested_unfit h = unfit_true e (rw same at (sym h))

    pub tested_fits : Judged m s t → false ≡ unfit x (top_in ts) (side_of x (state ts p) s t) v → Fits m (top_in ts) e (side_of e (state ts p)) s t v
    tested_fits j h = unfit_false e j (rw same at (sym h))
