-- Sums and searches over the first n elements of a list, its chunks, and the arrays that `from_fn` makes: what std's words say, place by place.
use Rattle.std.proofs.Common.{◌≡◌, ℕ, zero, suc, ◌+◌, ◌*◌, ◌<◌, ◌≤◌, Bool, List, [], ◌∷◌, length, get_or, take, drop, sym, refl, ap, ◌∙◌, subst, ⊎_elim, add-one, mul-suc, arith}
use Rattle.std.proofs.lemmas.Bool.{cases_eq, cases_lt, lt-ltb, le-ltb}
use Rattle.std.proofs.lemmas.List.{get_or_past, get_or-take, get_or-drop, length-take-le}
use Rattle.std.proofs.lemmas.List.Sums.{sum_by_more, fails_before_first, passes_at_first}
use Rattle.std.specs.Array.{IsFromFnResult, IsFromFnResultFrom}
use Rattle.std.specs.Fn.{Called, Mut}
use Rattle.std.specs.List.{AllByRecursion, sum_by, position, position_or_len}
use Rattle.std.specs.Simd.{first_chunks}
use Rattle.finite.specs.Sums.{sum}
use Rattle.finite.specs.Search.{least}
use Rattle.finite.proofs.Search.{least_none, least_found}

pub sum_of_first : {X : Type 0} (f : X → ℕ) (n : ℕ) (xs : List X) (d : X) → n ≤ length xs → sum_by f (take n xs) ≡ sum n (λ i. f (get_or xs i d))
sum_of_first f zero xs d l = refl
sum_of_first f (suc n) xs d l = (rw (add-one n) at (sum_by_more f xs n d (omega arith))) ∙ ap (λ k. k + f (get_or xs n d)) (sum_of_first f n xs d (omega arith))

-- the first place at which a list passes a test
pub position_least : {X : Type 0} (p : X → Bool) (q : ℕ → Bool) (xs : List X) (n : ℕ) (d : X) → length xs ≡ n → ((i : ℕ) → i < n → q i ≡ p (get_or xs i d)) → position p xs ≡ least n q
position_least p q xs n d long same =
    let at = position_or_len p xs in
    ⊎_elim
    (λ l. rw (lt-ltb at (length xs) l)
    (sym (least_found n q at (omega arith) (same at (omega arith) ∙ passes_at_first p xs d l) (λ k b. same k (omega arith) ∙ fails_before_first p xs k d b))))
    (λ l. rw (le-ltb at (length xs) l)
    (sym (least_none n q (λ k b. same k b ∙ fails_before_first p xs k d (omega arith)))))
    (cases_lt at (length xs))

pub position_in_first : {X : Type 0} (p : X → Bool) (n : ℕ) (xs : List X) (d : X) → n ≤ length xs → position p (take n xs) ≡ least n (λ i. p (get_or xs i d))
position_in_first p n xs d l = position_least p (λ i. p (get_or xs i d)) (take n xs) n d (length-take-le n xs l) (λ i h. ap p (sym (get_or-take n xs i d h)))

-- what holds at each place holds of each element
pub each_at : {X : Type 0} (P : X → Type 0) (xs : List X) (d : X) → ((i : ℕ) → i < length xs → P (get_or xs i d)) → AllByRecursion P xs
each_at P [] d h = tt
each_at P (x ∷ xs) d h = (h 0 (omega arith), each_at P xs d (λ i l. h (suc i) (omega arith)))

-- the element i of the chunk j
pub chunk_at : {X : Type 0} (n k j i : ℕ) (xs : List X) (d : X) → j < k → i < n → get_or (get_or (first_chunks n k xs) j []) i d ≡ get_or xs (n * j + i) d
chunk_at n zero j i xs d l h = absurd (omega arith)
chunk_at n (suc k) zero i xs d l h = get_or-take n xs i d h ∙ ap (λ m. get_or xs m d) (omega arith)
chunk_at n (suc k) (suc j) i xs d l h =
    chunk_at n k j i (drop n xs) d (omega arith) h ∙ get_or-drop n xs (n * j + i) d ∙ ap (λ m. get_or xs m d) (omega (arith, mul-suc n j))

-- f is a closure that leaves what it captures as it is, and P holds of each place and what f answers there
module _ {F B : Type 0} {g : Mut F (ℕ × Unit {0}) B} {f : F} where
  made_from : (n : ℕ) (ys : List B) (i : ℕ) (P : ℕ → B → Type 0) → ((k : ℕ) (y : B) (q : F) → Called g f (k, tt) y q → (q ≡ f) × P k y)
      → IsFromFnResultFrom g f ys i n → (k : ℕ) (d : B) → i ≤ k → k < i + n → P k (get_or ys k d)
  made_from zero ys i P answers made k d low high = absurd (omega arith)
  made_from (suc n) ys i P answers (q, y, at, call, rest) k d low high =
      let answer = answers i y q call in
      ⊎_elim
      (λ e. rw e (rw (at.1 d) answer.1))
      (λ e. made_from n ys (i + 1) P answers (subst (λ p. IsFromFnResultFrom g p ys (i + 1) n) answer.0 rest) k d (omega arith) (omega arith))
      (cases_eq k i)

  module _ {n : ℕ} {ys : List B} (made : IsFromFnResult g f ys n) (P : ℕ → B → Type 0) (answers : (k : ℕ) (y : B) (q : F) → Called g f (k, tt) y q → (q ≡ f) × P k y) where
    pub made_at : (k : ℕ) (d : B) → k < n → P k (get_or ys k d)
    made_at k d l = made_from n ys 0 P answers made.each k d (omega arith) (omega arith)

    -- where P holds of d from n on
    pub made_everywhere : (d : B) → ((k : ℕ) → n ≤ k → P k d) → (k : ℕ) → P k (get_or ys k d)
    made_everywhere d past k = ⊎_elim
        (made_at k d)
        (λ l. let long : n ≤ k = l in rw (get_or_past ys k d (omega (arith, made.long))) (past k l))
        (cases_lt k n)
