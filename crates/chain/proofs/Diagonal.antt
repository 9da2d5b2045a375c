-- The pairing of a section with itself: each successor with itself, at its own part.
use Rattle.std.proofs.Common.{◌≡◌, ℕ, ◌*◌, ◌<◌, ◌≤◌, cond, eqb, ltb, List, ℤ, refl, ap, ◌∙◌, arith}
use Rattle.std.proofs.lemmas.List.Elements.{recursion_from_All}
use Rattle.std.proofs.lemmas.Bool.Decides.{nat_tests}
use Rattle.finite.specs.Sums.{sum}
use Rattle.finite.proofs.Sums.{sum_same, sum_none, sum_one, term_le_sum}
use Rattle.std.specs.List.{AllByRecursion}
use Rattle.chart.specs.Distances.{Distances}
use Rattle.chart.specs.Meaning.{Word}
use Rattle.chain.specs.Chain.{Chain, Sound}
use Rattle.chain.specs.Pairing.{cost, Pairing}
use Rattle.chain.proofs.Listing.{listed, good}

-- u, u, p u for each successor u below k
abbrev diagonal : (ℕ → ℕ) → ℕ → List ℤ
diagonal p k = listed (λ u. u) (λ u. u) p k

pub record Itself (c : Chain) (s : ℕ) : Type 0 where
  pub words : List ℤ
  pub fit : AllByRecursion Word words
  pub valid : Pairing c s s words
  pub free : (d : Distances) → ((x : ℕ) → x < c.n → d.entry x x ≡ 0) → cost d words ≡ 0

pub itself : (c : Chain) → Sound c → (s : ℕ) → s < c.n → Itself c s
itself c sound s l =
    let p = c.part s in
    let low : (u : ℕ) → u < c.n → p u ≤ c.whole = λ u h. omega (arith, term_le_sum c.n p u h, sound.rows s l) in
    let g = good c sound (λ u. u) (λ u. u) p c.n (λ u h. h) (λ u h. h) low c.n (omega arith) in
    let margins : (x : ℕ) → x < c.n → sum c.n (λ u. cond (ltb 0 (p u)) (cond (eqb u x) (p u) 0) 0) ≡ p x
    = λ x h. sum_same c.n _ _ (λ u k. grind (arith, nat_tests)) ∙ sum_one c.n p x h in
    record {
      words = diagonal p c.n;
      fit = recursion_from_All Word (diagonal p c.n) g.words;
      valid = record {
        judged = record { first_in = l; second_in = l; alike = refl };
        threes = omega (arith, g.threes);
        few = omega (arith, g.threes, g.few, sound.n_most);
        left_word = λ j l. (g.each j l).0;
        right_word = λ j l. (g.each j l).1.0;
        amount_word = λ j l. (g.each j l).1.1;
        left_margin = λ x h. g.over_is (λ u v a. cond (eqb u x) a 0) ∙ margins x h;
        right_margin = λ x h. g.over_is (λ u v a. cond (eqb v x) a 0) ∙ margins x h;
      };
      free = λ d zeros. g.over_is (λ u v a. a * d.entry u v)
          ∙ sum_none c.n _ (λ u h. let none = ap (λ r. p u * r) (zeros u h) in grind (arith, nat_tests));
    }
