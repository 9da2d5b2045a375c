-- The value of a numeral, digit by digit.
use Rattle.std.proofs.Common.{◌≡◌, ℕ, ◌+◌, ◌-◌, ◌*◌, ◌<◌, ◌≤◌, true, false, List, [], ◌∷◌, length, get_or, drop, Some, None, refl, ap, ◌∙◌, ⊎_elim, arith}
use Rattle.std.specs.Char.{is_ascii_digit}
use Rattle.std.proofs.lemmas.List.{at_drop_more, at_drop_all}
use Rattle.std.proofs.lemmas.Bool.{cases_Bool, lt-leb, le-leb}
use Rattle.lines.specs.Numerals.{digits_after, at_most}

-- a value never falls, so that too great a start is too great
pub too_great : (most n : ℕ) (bs : List ℕ) → most < n → at_most most (digits_after n bs) ≡ None
unfolding digits_after
too_great most n [] h = rw (lt-leb n most h) refl
too_great most n (b ∷ bs) h =
    ⊎_elim (λ yes. rw yes (too_great most (n * 10 + (b - 48)) bs (omega arith))) (λ none. rw none refl) (cases_Bool (is_ascii_digit b))

module _ (n : ℕ) (bs : List ℕ) (i : ℕ) (h : i < length bs) where
  pub digit_more : is_ascii_digit (get_or bs i 0) ≡ true → digits_after n (drop i bs) ≡ digits_after (n * 10 + (get_or bs i 0 - 48)) (drop (i + 1) bs)
  unfolding digits_after
  digit_more e = at_drop_more (digits_after n) bs i 0 h ∙ rw e refl

  pub no_digit : is_ascii_digit (get_or bs i 0) ≡ false → digits_after n (drop i bs) ≡ None
  unfolding digits_after
  no_digit e = at_drop_more (digits_after n) bs i 0 h ∙ rw e refl

-- at the end the value is the number
pub digits_all : (most n : ℕ) (bs : List ℕ) (i : ℕ) → n ≤ most → length bs ≤ i → at_most most (digits_after n (drop i bs)) ≡ Some n
unfolding digits_after
digits_all most n bs i small h = ap (at_most most) (at_drop_all (digits_after n) bs i h) ∙ rw (le-leb n most small) refl
