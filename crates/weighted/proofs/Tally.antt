-- Amounts that are added up by section, one after another.
use Rattle.std.proofs.Common.{◌≡◌, ℕ, ◌+◌, ◌*◌, ◌<◌, ◌≤◌, cond, eqb, List, length, get_or, set, replicate, refl, ◌∙◌, add-one, arith}
use Rattle.std.proofs.lemmas.List.{get_or-replicate, get_or-set_same, get_or-set_other, length-set}
use Rattle.std.proofs.lemmas.Bool.{cases_eq}
use Rattle.std.proofs.lemmas.Bool.Decides.{nat_tests}
use Rattle.finite.specs.Sums.{sum}

-- after j amounts of at most 10,000 each, what stands at each section x is the sum of those at x
pub record Tallied (got : List ℕ) (place amount : ℕ → ℕ) (j : ℕ) : Type 0 where
  pub long : length got ≡ 32
  pub at : (x : ℕ) → x < 32 → get_or got x 0 ≡ sum j (λ i. cond (eqb (place i) x) (amount i) 0)
  pub few : (x : ℕ) → x < 32 → get_or got x 0 ≤ j * 10000

pub tallied_none : (place amount : ℕ → ℕ) → Tallied (replicate 32 0) place amount 0
tallied_none place amount = record {
  long = refl;
  at = λ x l. get_or-replicate 32 x 0 0 l;
  few = λ x l. omega (arith, get_or-replicate {A = ℕ} 32 x 0 0 l);
}

pub tallied_more : (got : List ℕ) (place amount : ℕ → ℕ) (j : ℕ) → Tallied got place amount j → place j < 32 → amount j ≤ 10000
    → Tallied (set got (place j) (get_or got (place j) 0 + amount j)) place amount (j + 1)
tallied_more got place amount j t inside low =
    let u = place j in
    let a = amount j in
    let step : (x : ℕ) → x < 32 → get_or (set got u (get_or got u 0 + a)) x 0 ≡ get_or got x 0 + cond (eqb u x) a 0
    = λ x k. let either = cases_eq x u in grind (arith, nat_tests, t.long, get_or-set_same, get_or-set_other) in
    record {
      long = length-set _ _ _ ∙ t.long;
      at = λ x k. rw add-one (omega (arith, step x k, t.at x k));
      few = λ x k. let e = step x k in let h = t.few x k in grind (arith, nat_tests);
    }
