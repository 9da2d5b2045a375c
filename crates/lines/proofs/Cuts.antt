-- The first field, and the blanks before it.
use Rattle.std.proofs.Common.{◌≡◌, ℕ, ◌<◌, true, false, not, List, [], ◌∷◌, length, take, drop, None, Some, position, unwrap_or, refl, ap, ◌∙◌, ⊎_elim, arith, length-drop}
use Rattle.std.specs.List.{position_or_len}
use Rattle.std.proofs.Math.Numerals.{one-add}
use Rattle.std.proofs.lemmas.Bool.{cases_Bool, not-true}
use Rattle.std.proofs.lemmas.Bool.Decides.{nat_tests}
use Rattle.std.proofs.lemmas.List.Sums.{prefix_len-le-length}
use Rattle.lines.specs.Fields.{blank, begins, extended, fields}

-- where the first field starts, and where the one at the front stops
abbrev start : List ℕ → ℕ
start bs = position_or_len (λ b. not (blank b)) bs

abbrev stop : List ℕ → ℕ
stop bs = position_or_len blank bs

-- blanks before the first field make no difference
fields_start : (bs : List ℕ) → fields bs ≡ fields (drop (start bs) bs)
unfolding fields
fields_start [] = refl
fields_start (b ∷ bs) =
    ⊎_elim (λ (yes : blank b ≡ true). rw (yes, one-add) (fields_start bs)) (λ (none : blank b ≡ false). rw (none, none)) (cases_Bool (blank b))

begins_start : (bs : List ℕ) → start bs < length bs → begins (drop (start bs) bs) ≡ true
begins_start [] h = absurd (omega arith)
begins_start (b ∷ bs) h =
    ⊎_elim (λ (yes : blank b ≡ true). let k = rw yes at h in rw (yes, one-add) (begins_start bs (omega arith))) (λ (none : blank b ≡ false). rw (none, none)) (cases_Bool (blank b))

joins : (b : ℕ) (bs : List ℕ) → blank b ≡ false → begins bs ≡ true → fields (b ∷ bs) ≡ extended b (fields bs)
unfolding fields
joins b bs here next = rw (here, next) refl

-- the bytes before the first blank are a field, if there are some
fields_stop : (b : ℕ) (bs : List ℕ) → blank b ≡ false → fields (b ∷ bs) ≡ take (stop (b ∷ bs)) (b ∷ bs) ∷ fields (drop (stop (b ∷ bs)) (b ∷ bs))
unfolding fields
fields_stop b [] here = rw here refl
fields_stop b (a ∷ bs) here =
    ⊎_elim
    (λ (yes : blank a ≡ true). rw (here, yes, yes) refl)
    (λ (none : blank a ≡ false). joins b (a ∷ bs) here (rw none refl) ∙ ap (extended b) (fields_stop a bs none) ∙ rw (here, one-add (stop (a ∷ bs))) refl)
    (cases_Bool (blank a))

fields_none : (bs : List ℕ) → length bs ≡ 0 → fields bs ≡ []
unfolding fields
fields_none [] e = refl
fields_none (b ∷ bs) e = absurd (omega arith)

pub none_starts : (bs : List ℕ) → position (λ b. not (blank b)) bs ≡ None → fields bs ≡ []
none_starts bs e = grind (arith, nat_tests, fields_start bs, fields_none (drop (start bs) bs), length-drop (start bs) bs)

pub some_starts : (bs : List ℕ) (n : ℕ) → position (λ b. not (blank b)) bs ≡ Some n → (fields bs ≡ fields (drop n bs)) × (begins (drop n bs) ≡ true)
some_starts bs n e = grind (arith, nat_tests, fields_start bs, begins_start bs)

pub field_stops : (bs : List ℕ) → begins bs ≡ true → (n : ℕ) → n ≡ unwrap_or (position blank bs) (length bs) → (fields bs ≡ take n bs ∷ fields (drop n bs)) × (0 < n)
field_stops [] e n is = cc
field_stops (b ∷ bs) e n is =
    let here : blank b ≡ false = not-true (blank b) e in
    let same : n ≡ stop (b ∷ bs) = grind (arith, nat_tests, prefix_len-le-length (λ b. not (blank b)) (b ∷ bs)) in
    rw same (fields_stop b bs here, rw here (omega arith))
