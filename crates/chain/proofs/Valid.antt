-- A showing has no fault exactly if it is valid.
use Rattle.std.proofs.Common.{◌≡◌, ℕ, zero, suc, ◌+◌, ◌-◌, ◌*◌, ◌/◌, ◌%◌, ◌<◌, false, not, ◌||◌, eqb, ltb, List, length, ℤ, pos, ◌+ℤ◌, ◌≤ℤ◌, neg_ℤ, None, refl, ◌∙◌, arith}
use borrow.Author.Differences.{lt-false, false_is_lt, le_out, at_most_in}
use Rattle.std.specs.Option.{option_map}
use Rattle.std.proofs.lemmas.Bool.{false_from_ne_true, not-false, eqb-true, eq-eqb, not_from_true, lt-ltb, le-ltb, cond-true, cond-false}
use Rattle.std.proofs.lemmas.Nat.{div-mul-add, mod-mul-add, mul-add-lt, div_below, mod_below}
use Rattle.std.proofs.lemmas.Bool.Decides.{nat_tests}
use Rattle.finite.specs.Search.{given, least}
use Rattle.finite.proofs.Search.{first_of_none, given_none, mapped_none, least_none_at, least_none}
use Rattle.chart.specs.Distances.{Distances}
use Rattle.chart.specs.Bands.{unjudged}
use Rattle.chart.specs.Words.{word, outside}
use Rattle.chart.proofs.Bands.{judges_from, judges_to}
use Rattle.chart.proofs.Words.{between_outside, outside_between}
use Rattle.chain.specs.declared.fault.Fault.TheVariants.{Unjudged, PairingCount, FirstMargin, SecondMargin, PotentialsCount, Range, Above}
use Rattle.chain.specs.Chain.{Chain}
use Rattle.chain.specs.Pairing.{left, right, margin, Pairing, bad_word, word_fault, pairing_fault}
use Rattle.chain.specs.Potentials.{alpha, beta, above, Potentials, potentials_fault}

pub pairing_from : (c : Chain) (s t : ℕ) (ws : List ℤ) → pairing_fault c s t ws ≡ None → Pairing c s t ws
unfolding pairing_fault
pairing_from c s t ws e =
    let p0 = first_of_none (given (unjudged c.n c.band s t) Unjudged) _ e in
    let p1 = first_of_none (given (not (eqb (length ws % 3) 0) || ltb 3072 (length ws)) (PairingCount (length ws))) _ p0.1 in
    let p2 = first_of_none (option_map word_fault (least (length ws) (bad_word c ws))) _ p1.1 in
    let p3 = first_of_none (option_map FirstMargin (least c.n (λ u. not (eqb (margin left ws u) (c.part s u))))) _ p2.1 in
    let p4 = first_of_none (option_map SecondMargin (least c.n (λ v. not (eqb (margin right ws v) (c.part t v))))) _ p3.1 in
    let count = given_none _ _ p1.0 in
    let threes : length ws % 3 ≡ 0 = grind (arith, nat_tests) in
    let words = least_none_at (length ws) (bad_word c ws) (mapped_none word_fault _ p2.0) in
    record {
      judged = judges_from c.n c.band s t (given_none _ _ p0.0);
      threes = threes;
      few = grind (arith, nat_tests);
      left_word = λ j l. let e = words (3 * j) (omega arith) in outside_between (pos 0) (pos (c.n - 1)) (word ws (3 * j)) (grind (arith, nat_tests));
      right_word = λ j l. let e = words (3 * j + 1) (omega arith) in outside_between (pos 0) (pos (c.n - 1)) (word ws (3 * j + 1)) (grind (arith, nat_tests));
      amount_word = λ j l. let e = words (3 * j + 2) (omega arith) in outside_between (pos 1) (pos c.whole) (word ws (3 * j + 2)) (grind (arith, nat_tests));
      left_margin = λ u l. eqb-true _ _ (not-false _ (least_none_at c.n (λ u. not (eqb (margin left ws u) (c.part s u))) (mapped_none FirstMargin _ p3.0) u l));
      right_margin = λ v l. eqb-true _ _ (not-false _ (least_none_at c.n (λ v. not (eqb (margin right ws v) (c.part t v))) (mapped_none SecondMargin _ p4.0) v l));
    }

words_good : (c : Chain) (s t : ℕ) (ws : List ℤ) → Pairing c s t ws → (i : ℕ) → i < length ws → bad_word c ws i ≡ false
words_good c s t ws p i l = by (i % 3) refl where
  by : (k : ℕ) → i % 3 ≡ k → bad_word c ws i ≡ false
  by zero e =
      let at : 3 * (i / 3) ≡ i = omega arith in
      cond-true _ _ _ (lt-ltb (i % 3) 2 (omega arith)) ∙ between_outside (pos 0) (pos (c.n - 1)) (word ws i) (rw at at (p.left_word (i / 3) (omega (arith, p.threes))))
  by (suc zero) e =
      let at : 3 * (i / 3) + 1 ≡ i = omega arith in
      cond-true _ _ _ (lt-ltb (i % 3) 2 (omega arith)) ∙ between_outside (pos 0) (pos (c.n - 1)) (word ws i) (rw at at (p.right_word (i / 3) (omega (arith, p.threes))))
  by (suc (suc k)) e =
      let at : 3 * (i / 3) + 2 ≡ i = omega arith in
      cond-false _ _ _ (le-ltb (i % 3) 2 (omega arith)) ∙ between_outside (pos 1) (pos c.whole) (word ws i) (rw at at (p.amount_word (i / 3) (omega (arith, p.threes))))

pub pairing_to : (c : Chain) (s t : ℕ) (ws : List ℤ) → Pairing c s t ws → pairing_fault c s t ws ≡ None
unfolding pairing_fault
pairing_to c s t ws p =
    simp (
      judges_to c.n c.band s t p.judged,
      eq-eqb (length ws % 3) 0 p.threes,
      le-ltb 3072 (length ws) p.few,
      least_none (length ws) (bad_word c ws) (words_good c s t ws p),
      least_none c.n (λ u. not (eqb (margin left ws u) (c.part s u))) (λ u l. not_from_true _ (eq-eqb _ _ (p.left_margin u l))),
      least_none c.n (λ v. not (eqb (margin right ws v) (c.part t v))) (λ v l. not_from_true _ (eq-eqb _ _ (p.right_margin v l))),
    )

module _ (c : Chain) (d : Distances) (s t : ℕ) (ws : List ℤ) where
  pub above_first : (u v : ℕ) → c.part s u ≡ 0 → above c d s t ws u v ≡ false
  above_first u v h = grind (arith, nat_tests)

  pub potentials_from : potentials_fault c d s t ws ≡ None → Potentials c d s t ws
  unfolding potentials_fault
  potentials_from e =
      let p0 = first_of_none (given (unjudged c.n c.band s t) Unjudged) _ e in
      let p1 = first_of_none (given (not (eqb (length ws) (2 * c.n))) (PotentialsCount (length ws))) _ p0.1 in
      let p2 = first_of_none (option_map Range (least (length ws) (λ i. outside (neg_ℤ (pos d.top)) (pos d.top) (word ws i)))) _ p1.1 in
      let p3 = first_of_none (option_map Above (least (c.n * c.n) (λ i. above c d s t ws (i / c.n) (i % c.n)))) _ p2.1 in
      let clear = least_none_at (c.n * c.n) (λ i. above c d s t ws (i / c.n) (i % c.n)) (mapped_none Above _ p3.0) in
      let count : length ws ≡ 2 * c.n = eqb-true _ _ (not-false _ (given_none _ _ p1.0)) in
      record {
        judged = judges_from c.n c.band s t (given_none _ _ p0.0);
        count = count;
        range = λ i l. outside_between (neg_ℤ (pos d.top)) (pos d.top) (word ws i) (least_none_at (length ws) (λ i. outside (neg_ℤ (pos d.top)) (pos d.top) (word ws i)) (mapped_none Range _ p2.0) i (omega arith));
        under = λ u v lu lv hu hv.
            let flat = rw (div-mul-add u c.n v lv, mod-mul-add u c.n v lv) at (clear (u * c.n + v) (mul-add-lt u c.n v c.n lu lv)) in
            at_most_in (alpha ws u +ℤ beta c ws v) (pos (d.entry u v)) (lt-false (pos (d.entry u v)) (alpha ws u +ℤ beta c ws v) (grind (arith, nat_tests)));
      }

  -- potentials of two successors that stay under their entry
  pub not_above : (u v : ℕ) → (0 < c.part s u → 0 < c.part t v → (alpha ws u +ℤ beta c ws v) ≤ℤ pos (d.entry u v)) → above c d s t ws u v ≡ false
  not_above u v under = false_from_ne_true (above c d s t ws u v) (λ e.
      let hu : 0 < c.part s u = grind (arith, nat_tests) in
      let hv : 0 < c.part t v = grind (arith, nat_tests) in
      let low = false_is_lt (pos (d.entry u v)) (alpha ws u +ℤ beta c ws v) (le_out (alpha ws u +ℤ beta c ws v) (pos (d.entry u v)) (under hu hv)) in
      grind (arith, nat_tests))

  pub potentials_to : Potentials c d s t ws → potentials_fault c d s t ws ≡ None
  unfolding potentials_fault
  potentials_to p =
      let some : 0 < c.n = omega (arith, p.judged.first_in) in
      simp (
        judges_to c.n c.band s t p.judged,
        eq-eqb (length ws) (2 * c.n) p.count,
        least_none (length ws) (λ i. outside (neg_ℤ (pos d.top)) (pos d.top) (word ws i)) (λ i l. between_outside (neg_ℤ (pos d.top)) (pos d.top) (word ws i) (p.range i (omega (arith, p.count)))),
        least_none (c.n * c.n) (λ i. above c d s t ws (i / c.n) (i % c.n)) (λ i l. not_above (i / c.n) (i % c.n) (p.under (i / c.n) (i % c.n) (div_below i c.n c.n some l) (mod_below i c.n some))),
      )
