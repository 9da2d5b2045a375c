-- A showing has no fault exactly if it is valid.
use Rattle.std.proofs.Common.{◌≡◌, ℕ, zero, suc, ◌+◌, ◌*◌, ◌/◌, ◌%◌, ◌<◌, true, false, not, ◌&&◌, cond, eqb, List, length, ℤ, pos, negsuc, ◌⊎◌, inl, inr, None, refl, ap, ⊎_elim, arith}
use Rattle.std.specs.Option.{option_map}
use Rattle.std.proofs.lemmas.Bool.{false_from_ne_true, not-false, eqb-true, eq-eqb, not_from_true, le-ltb, ltb-false, and_parts, ltb-true, cases_eq}
use Rattle.std.proofs.lemmas.Bool.Decides.{nat_tests}
use Rattle.finite.specs.Search.{given, least}
use Rattle.finite.proofs.Search.{first_of_none, given_none, mapped_none, least_none_at, least_none, some_least, least_some}
use Rattle.chart.specs.Distances.{Distances}
use Rattle.chart.specs.Bands.{unjudged}
use Rattle.chart.specs.Words.{word, outside}
use Rattle.chart.proofs.Bands.{judges_from, judges_to}
use Rattle.chart.proofs.Words.{between_outside, outside_between}
use Rattle.transitions.specs.declared.fault.Fault.TheVariants.{Unjudged, PairingCount, NoSuccessor, FirstUnpaired, SecondUnpaired, PotentialsCount, NoSide, NoSection, NoFloor, Below}
use Rattle.transitions.specs.System.{System, successor}
use Rattle.transitions.specs.Words.{names}
use Rattle.transitions.specs.Pairing.{left, right, pairs, paired, Pairing, bad_word, pairing_fault}
use Rattle.transitions.specs.Potentials.{side, other, Potentials, potentials_fault}
use Rattle.transitions.proofs.Words.{successor_in}
use Rattle.transitions.proofs.Exits.{uneven, unpaired_first, unpaired_second, no_side, no_section, no_floor, below}

-- some pair has x on the side
abbrev InPair : (List ℤ → ℕ → ℕ) → List ℤ → ℕ → Type 0
InPair side ws x = (j : ℕ) × (j < pairs ws) × (side ws j ≡ x)

module _ (c : System) (s : ℕ) (side : List ℤ → ℕ → ℕ) (ws : List ℤ) where
  each_from : least c.n (λ u. successor c s u && not (paired side ws u)) ≡ None → (u : ℕ) → successor c s u ≡ true → InPair side ws u
  each_from e u h =
      let no = least_none_at c.n (λ u. successor c s u && not (paired side ws u)) e u (successor_in c s u h) in
      let p : paired side ws u ≡ true = grind (arith, nat_tests) in
      let (j, l, is) = some_least (pairs ws) (λ j. eqb (side ws j) u) p in
      (j, l, eqb-true _ _ is)

  each_to : ((u : ℕ) → successor c s u ≡ true → InPair side ws u) → least c.n (λ u. successor c s u && not (paired side ws u)) ≡ None
  each_to each = least_none c.n (λ u. successor c s u && not (paired side ws u)) (λ u l. false_from_ne_true (successor c s u && not (paired side ws u)) (λ e.
      let h : successor c s u ≡ true = grind (arith, nat_tests) in
      let (j, inside, is) = each u h in
      let p : paired side ws u ≡ true = least_some (pairs ws) (λ j. eqb (side ws j) u) j inside (eq-eqb _ _ is) in
      grind (arith, nat_tests)))

module _ (c : System) (s t : ℕ) (ws : List ℤ) where
  pub pairing_from : pairing_fault c s t ws ≡ None → Pairing c s t ws
  unfolding pairing_fault
  pairing_from e =
      let p0 = first_of_none (given (unjudged c.n c.band s t) Unjudged) _ e in
      let p1 = first_of_none (given (uneven c s t ws) (PairingCount (length ws))) _ p0.1 in
      let p2 = first_of_none (option_map NoSuccessor (least (length ws) (bad_word c s t ws))) _ p1.1 in
      let p3 = first_of_none (option_map FirstUnpaired (least c.n (unpaired_first c s t ws))) _ p2.1 in
      let p4 = first_of_none (option_map SecondUnpaired (least c.n (unpaired_second c s t ws))) _ p3.1 in
      let count = given_none _ _ p1.0 in
      let twos : length ws % 2 ≡ 0 = grind (arith, nat_tests) in
      let words = least_none_at (length ws) (bad_word c s t ws) (mapped_none NoSuccessor _ p2.0) in
      record {
        judged = judges_from c.n c.band s t (given_none _ _ p0.0);
        twos = twos;
        few = grind (arith, nat_tests);
        left_names = λ j l. let e = words (2 * j) (omega arith) in let even : 2 * j % 2 ≡ 0 = omega arith in not-false _ (rw even at e);
        right_names = λ j l. let e = words (2 * j + 1) (omega arith) in let odd : (2 * j + 1) % 2 ≡ 1 = omega arith in not-false _ (rw odd at e);
        left_each = each_from c s left ws (mapped_none FirstUnpaired _ p3.0);
        right_each = each_from c t right ws (mapped_none SecondUnpaired _ p4.0);
      }

  -- by the place in its pair
  pub each_named : Pairing c s t ws → (i : ℕ) → i < length ws → names c (cond (eqb (i % 2) 0) s t) (word ws i) ≡ true
  each_named p i l = by (i % 2) refl where
    by : (k : ℕ) → i % 2 ≡ k → names c (cond (eqb (i % 2) 0) s t) (word ws i) ≡ true
    by zero e = let at : 2 * (i / 2) ≡ i = omega arith in rw (e, ← at) (p.left_names (i / 2) (omega (arith, p.twos)))
    by (suc k) e = let one : i % 2 ≡ 1 = omega arith in let at : 2 * (i / 2) + 1 ≡ i = omega arith in rw (one, ← at) (p.right_names (i / 2) (omega (arith, p.twos)))

  pub pairing_to : Pairing c s t ws → pairing_fault c s t ws ≡ None
  unfolding pairing_fault
  pairing_to p = simp (
    judges_to c.n c.band s t p.judged,
    eq-eqb (length ws % 2) 0 p.twos,
    le-ltb 2048 (length ws) p.few,
    least_none (length ws) (bad_word c s t ws) (λ i l. not_from_true _ (each_named p i l)),
    each_to c s left ws p.left_each,
    each_to c t right ws p.right_each,
  )

-- a side is 0 or 1
side_from : (z : ℤ) → outside (pos 0) (pos 1) z ≡ false → ((z ≡ pos 0) ⊎ (z ≡ pos 1))
side_from (pos k) e = ⊎_elim (λ h. inl (ap pos h)) (λ h. inr (ap pos (grind (arith, nat_tests)))) (cases_eq k 0)
side_from (negsuc k) e = absurd (cc e)

side_to : (z : ℤ) → ((z ≡ pos 0) ⊎ (z ≡ pos 1)) → outside (pos 0) (pos 1) z ≡ false
side_to z = ⊎_elim (λ e. rw e refl) (λ e. rw e refl)

module _ (c : System) (d : Distances) (s t : ℕ) (ws : List ℤ) where
  pub potentials_from : potentials_fault c d s t ws ≡ None → Potentials c d s t ws
  unfolding potentials_fault
  potentials_from e =
      let p0 = first_of_none (given (unjudged c.n c.band s t) Unjudged) _ e in
      let p1 = first_of_none (given (not (eqb (length ws) 3)) (PotentialsCount (length ws))) _ p0.1 in
      let p2 = first_of_none (given (no_side c s t ws) NoSide) _ p1.1 in
      let p3 = first_of_none (given (no_section c s t ws) NoSection) _ p2.1 in
      let p4 = first_of_none (given (no_floor c s t ws d) NoFloor) _ p3.1 in
      let p5 = first_of_none (option_map Below (least c.n (below c s t ws d))) _ p4.1 in
      let clear = least_none_at c.n (below c s t ws d) (mapped_none Below _ p5.0) in
      record {
        judged = judges_from c.n c.band s t (given_none _ _ p0.0);
        count = eqb-true _ _ (not-false _ (given_none _ _ p1.0));
        side_word = side_from (word ws 0) (given_none _ _ p2.0);
        section_word = not-false _ (given_none _ _ p3.0);
        floor_word = outside_between (pos 0) (pos d.top) (word ws 2) (given_none _ _ p4.0);
        under = λ y h. let e = clear y (successor_in c (other (side ws) s t) y h) in ltb-false _ _ (cc (e, h));
      }

  not_below : Potentials c d s t ws → (y : ℕ) → y < c.n → below c s t ws d y ≡ false
  not_below p y l = false_from_ne_true (below c s t ws d y) (λ e.
      let h = and_parts _ _ e in
      let low = p.under y h.0 in
      let high = ltb-true _ _ h.1 in
      omega arith)

  pub potentials_to : Potentials c d s t ws → potentials_fault c d s t ws ≡ None
  unfolding potentials_fault
  potentials_to p = simp (
    judges_to c.n c.band s t p.judged,
    eq-eqb (length ws) 3 p.count,
    side_to (word ws 0) p.side_word,
    not_from_true _ p.section_word,
    between_outside (pos 0) (pos d.top) (word ws 2) p.floor_word,
    least_none c.n (below c s t ws d) (not_below p),
  )
