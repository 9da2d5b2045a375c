-- How many values there are, and how many that are not marked.
use Rattle.std.proofs.Common.{◌≡◌, ℕ, zero, suc, ◌+◌, ◌*◌, Bool, true, false, not, ◌&&◌, cond, List, [], ◌∷◌, length, get_or, set, replicate, is_some, Some, None, Option, sym, refl, ap, ap₂, ◌∙◌, add-zero, arith}
use Rattle.std.specs.List.{count_by, zip}
use Rattle.std.proofs.lemmas.Bool.{lt-ltb}
use Rattle.std.proofs.lemmas.List.Sums.{sum_by-cons, sum_by-set}
use Rattle.std.proofs.lemmas.Nat.{mul-add-lt}
use Rattle.std.proofs.lemmas.Slice.Zip.{length-zip, get_or-zip}
use Rattle.chart.specs.Cells.{cell_index}
use Rattle.history.specs.Rules.{claims, unshown}
use Rattle.claims.specs.Scan.{waits, unmarked}
use Rattle.claims.specs.Views.{grid}
use Rattle.claims.proofs.Grids.{found}
use Rattle.claims.proofs.Rows.{passing_rows}

-- among the cells, and among the pairs
pub claims_counted : (vs : List (Option ℕ)) → length vs ≡ 1024 → count_by is_some vs ≡ claims (grid None vs)
claims_counted vs long = passing_rows None is_some vs 32 32 (λ s t. is_some (grid None vs s t)) long (λ s t hs ht. rw (lt-ltb s 32 hs, lt-ltb t 32 ht) refl)

pub unshown_counted : (vs : List (Option ℕ)) (ms : List Bool) → length vs ≡ 1024 → length ms ≡ 1024 → unmarked vs ms ≡ unshown (grid None vs) (grid false ms)
unshown_counted vs ms long marks =
    passing_rows (None, false) (λ p. is_some p.0 && not p.1) (zip vs ms) 32 32 (waits (grid None vs) (grid false ms)) (omega (arith, length-zip vs ms))
    (λ s t hs ht. let l = mul-add-lt s 32 t 32 hs ht in rw (lt-ltb s 32 hs, lt-ltb t 32 ht, get_or-zip vs ms (s * 32 + t) (None, false) (omega arith) (omega arith)) refl)

-- with no mark
unmarked_one : (v : Option ℕ) → ◌≡◌ {A = ℕ} (cond (is_some v && true) 1 0) (cond (is_some v) 1 0)
unmarked_one None = refl
unmarked_one (Some v) = refl

pub unmarked_none : (vs : List (Option ℕ)) (n : ℕ) → length vs ≡ n → unmarked vs (replicate n false) ≡ count_by is_some vs
unmarked_none [] n long = refl
unmarked_none (v ∷ vs) zero long = absurd (omega arith)
unmarked_none (v ∷ vs) (suc n) long =
    sum_by-cons (λ p. cond (is_some p.0 && not p.1) 1 0) (v, false) (zip vs (replicate n false))
    ∙ ap₂ ◌+◌ (unmarked_one v) (unmarked_none vs n (omega arith))
    ∙ sym (sum_by-cons (λ o. cond (is_some o) 1 0) v vs)

-- with one mark more
marked_one : (v : Option ℕ) → ◌≡◌ {A = ℕ} (cond (is_some v && false) 1 0) 0
marked_one None = refl
marked_one (Some v) = refl

zip_set : (vs : List (Option ℕ)) (ms : List Bool) (i : ℕ) (b : Bool) → zip vs (set ms i b) ≡ set (zip vs ms) i (get_or vs i None, b)
zip_set [] ms i b = refl
zip_set (v ∷ vs) [] i b = refl
zip_set (v ∷ vs) (m ∷ ms) zero b = refl
zip_set (v ∷ vs) (m ∷ ms) (suc i) b = ap (λ ps. (v, m) ∷ ps) (zip_set vs ms i b)

pub unmarked_set : (vs : List (Option ℕ)) (ms : List Bool) (s t i : ℕ) (b : Bool) → Some i ≡ cell_index s t → length vs ≡ 1024 → length ms ≡ 1024 → b ≡ waits (grid None vs) (grid false ms) s t
    → unmarked vs (set ms i true) + cond b 1 0 ≡ unmarked vs ms
unmarked_set vs ms s t i b at hv hm eb =
    let (is, hs, ht) = found s t i at in
    let f : Option ℕ × Bool → ℕ = λ p. cond (is_some p.0 && not p.1) 1 0 in
    let zipped = rw (get_or-zip vs ms i (None, false) (omega arith) (omega arith)) at (sum_by-set f (zip vs ms) i (get_or vs i None, true) (None, false) (omega (arith, length-zip vs ms))) in
    rw (eb, lt-ltb s 32 hs, lt-ltb t 32 ht, sym is, zip_set vs ms i true) (zipped ∙ ap (λ k. unmarked vs ms + k) (marked_one (get_or vs i None)) ∙ add-zero (unmarked vs ms))
