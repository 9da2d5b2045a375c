-- The words of a pairing, one pair after another.
use Rattle.std.proofs.Common.{◌≡◌, ℕ, ◌+◌, ◌*◌, ◌%◌, ◌<◌, true, false, not, List, length, ℤ, Some, None, refl, ap, ◌∙◌, ⊎_elim, arith}
use Rattle.std.proofs.lemmas.Bool.{cases_eq, not_from_true, not_from_false}
use Rattle.finite.specs.Search.{least}
use Rattle.finite.proofs.Search.{least_none, least_found}
use Rattle.chart.specs.Words.{word}
use Rattle.transitions.specs.System.{System}
use Rattle.transitions.specs.Words.{names}
use Rattle.transitions.specs.Pairing.{pairs, bad_word}

module _ (c : System) (s t : ℕ) (ws : List ℤ) where
  -- no word before the pair j is bad
  abbrev pub Clear : ℕ → Type 0
  Clear j = (i : ℕ) → i < 2 * j → bad_word c s t ws i ≡ false

  module _ (j : ℕ) where
    left_bad : bad_word c s t ws (2 * j) ≡ not (names c s (word ws (2 * j)))
    left_bad = let even : 2 * j % 2 ≡ 0 = omega arith in rw even refl

    right_bad : bad_word c s t ws (2 * j + 1) ≡ not (names c t (word ws (2 * j + 1)))
    right_bad = let odd : (2 * j + 1) % 2 ≡ 1 = omega arith in rw odd refl

    module _ (clear : Clear j) where
      pub left_found : j < pairs ws → names c s (word ws (2 * j)) ≡ false → least (length ws) (bad_word c s t ws) ≡ Some (2 * j)
      left_found l e = least_found (length ws) (bad_word c s t ws) (2 * j) (omega arith) (left_bad ∙ not_from_false _ e) clear

      module _ (good : names c s (word ws (2 * j)) ≡ true) where
        left_clear : (i : ℕ) → i < 2 * j + 1 → bad_word c s t ws i ≡ false
        left_clear i l = ⊎_elim (λ e. ap (bad_word c s t ws) e ∙ left_bad ∙ not_from_true _ good) (λ d. clear i (omega arith)) (cases_eq i (2 * j))

        pub right_found : j < pairs ws → names c t (word ws (2 * j + 1)) ≡ false → least (length ws) (bad_word c s t ws) ≡ Some (2 * j + 1)
        right_found l e = least_found (length ws) (bad_word c s t ws) (2 * j + 1) (omega arith) (right_bad ∙ not_from_false _ e) left_clear

        pub clear_more : names c t (word ws (2 * j + 1)) ≡ true → Clear (j + 1)
        clear_more e i l = ⊎_elim (λ same. ap (bad_word c s t ws) same ∙ right_bad ∙ not_from_true _ e) (λ d. left_clear i (omega arith)) (cases_eq i (2 * j + 1))

  pub all_clear : length ws % 2 ≡ 0 → Clear (pairs ws) → least (length ws) (bad_word c s t ws) ≡ None
  all_clear even clear = least_none (length ws) (bad_word c s t ws) (λ i l. clear i (omega arith))
