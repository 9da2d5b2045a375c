-- The triples of a pairing, one after another.
use Rattle.std.proofs.Common.{◌≡◌, ℕ, ◌+◌, ◌-◌, ◌*◌, ◌%◌, ◌<◌, ◌≤◌, false, List, length, ℤ, Some, None, Option, refl, ◌∙◌, ⊎_elim, arith}
use Rattle.std.specs.Option.{option_map}
use Rattle.std.proofs.lemmas.Bool.{cases_lt}
use Rattle.finite.specs.Search.{least}
use Rattle.finite.proofs.Search.{least_none_at, least_found, least_at}
use Rattle.chart.specs.Words.{word}
use Rattle.chain.specs.declared.fault.Fault.{Fault}
use Rattle.chain.specs.Chain.{Chain}
use Rattle.chain.specs.Pairing.{triples, bad_word, word_fault}

-- no word before the triple j is bad
abbrev pub Clear : Chain → List ℤ → ℕ → Type 0
Clear c ws j = (i : ℕ) → i < 3 * j → bad_word c ws i ≡ false

module _ (c : Chain) (ws here : List ℤ) (j : ℕ) (is : (i : ℕ) → i < 3 → word here i ≡ word ws (3 * j + i)) (clear : Clear c ws j) where
  bad_at : (i : ℕ) → i < 3 → bad_word c ws (3 * j + i) ≡ bad_word c here i
  bad_at i l =
      let e : (3 * j + i) % 3 ≡ i % 3 = omega arith in rw (e, is i l) refl

  -- the words before the triple are good, and so are its first n
  good_before : (n : ℕ) → n ≤ 3 → ((i : ℕ) → i < n → bad_word c here i ≡ false) → (k : ℕ) → k < 3 * j + n → bad_word c ws k ≡ false
  good_before n few good k l =
      let i = k - 3 * j in
      ⊎_elim (clear k) (λ h. let at : 3 * j + i ≡ k = omega arith in rw (← at) (bad_at i (omega arith) ∙ good i (omega arith))) (cases_lt k (3 * j))

  pub bad_found : (f : Fault) → j < triples ws → option_map (λ i. word_fault (3 * j + i)) (least 3 (bad_word c here)) ≡ Some f → option_map word_fault (least (length ws) (bad_word c ws)) ≡ Some f
  bad_found f l e = of (least 3 (bad_word c here)) refl e where
    of : (o : Option ℕ) → least 3 (bad_word c here) ≡ o → option_map (λ i. word_fault (3 * j + i)) o ≡ Some f → option_map word_fault (least (length ws) (bad_word c ws)) ≡ Some f
    of (Some i) e h =
        let at = least_at 3 (bad_word c here) i e in
        rw (least_found (length ws) (bad_word c ws) (3 * j + i) (omega (arith, at.within)) (bad_at i at.within ∙ at.passes) (good_before i (omega (arith, at.within)) at.before)) h
    of None e h = absurd (cc h)

  pub clear_more : least 3 (bad_word c here) ≡ None → Clear c ws (j + 1)
  clear_more good k l = good_before 3 (omega arith) (least_none_at 3 (bad_word c here) good) k (omega arith)
