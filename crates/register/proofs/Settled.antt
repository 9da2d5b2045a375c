-- The entries of a pair that two registers have settled.
use Rattle.std.proofs.Common.{◌≡◌, ℕ, ◌*◌, ◌&&◌, true, IfSome, ◌==◌, arith, inl, inr}
use Rattle.std.proofs.lemmas.Bool.Decides.{nat_tests}
use Rattle.std.specs.Option.{option_zip}
use Rattle.chart.specs.Meaning.{Meaning, Judged}
use Rattle.chart.specs.Same.{Same}
use Rattle.chart.specs.Starting.{judged_pair}
use Rattle.history.specs.Rules.{State}
use Rattle.history.specs.Promises.{Agree}
use Rattle.std.proofs.lemmas.Bool.{cases_Bool}
use Rattle.register.specs.Settling.{settled_entry}

settles : {F : Type 0} (m : Meaning F) (σ : State) (s t : ℕ) → (judged_pair m s t && σ.lower s t == σ.upper s t) ≡ true → Judged m s t × (σ.lower s t ≡ σ.upper s t)
settles m σ s t is = (record { first_in = grind (arith, nat_tests); second_in = grind (arith, nat_tests); together = grind (arith, nat_tests) }, grind (arith, nat_tests))

pub settled_alike : {F G : Type 0} (m : Meaning F) (o : Meaning G) (K L : ℕ) (σ τ : State) (s t : ℕ) → (Same m o → Agree m K σ L τ)
    → IfSome (option_zip (settled_entry m σ s t) (settled_entry o τ s t)) (λ entries. Same m o → entries.0 * L ≡ entries.1 * K)
settled_alike m o K L σ τ s t agree =
    elim (cases_Bool (judged_pair m s t && σ.lower s t == σ.upper s t)) [
      | inr off ↦ rw off tt
      | inl is ↦ elim (cases_Bool (judged_pair o s t && τ.lower s t == τ.upper s t)) [
        | inr off ↦ rw (is, off) tt
        | inl is' ↦ rw (is, is') (λ same. let (judged, here) = settles m σ s t is in agree same s t judged here (settles o τ s t is').1)
      ]
    ]
