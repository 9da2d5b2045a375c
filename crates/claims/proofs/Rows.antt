-- How many of a list pass a test, counted row by row.
use Rattle.std.proofs.Common.{◌≡◌, ℕ, zero, suc, ◌+◌, ◌*◌, ◌<◌, Bool, cond, refl, ap, ◌∙◌, add-zero, add-suc, suc-mul, zero-mul, List, length, get_or, arith}
use Rattle.std.proofs.Math.Seq.{take-length}
use Rattle.finite.specs.Sums.{sum}
use Rattle.finite.proofs.Sums.{sum_same}
use Rattle.finite.proofs.Lists.{sum_of_first}
use Rattle.std.specs.List.{count_by}

sum_split : (a b : ℕ) (f : ℕ → ℕ) → sum (a + b) f ≡ sum a f + sum b (λ t. f (a + t))
sum_split a zero f = rw (add-zero a) (omega arith)
sum_split a (suc b) f = rw (add-suc a b) (omega (arith, sum_split a b f))

sum_rows : (n m : ℕ) (f : ℕ → ℕ) → sum (n * m) f ≡ sum n (λ s. sum m (λ t. f (s * m + t)))
sum_rows zero m f = rw (zero-mul m) refl
sum_rows (suc n) m f = rw (suc-mul n m) (omega (arith, sum_split (n * m) m f, sum_rows n m f))

-- a test of the elements of n rows of m, as a test of pairs
pub passing_rows : {A : Type 0} (none : A) (p : A → Bool) (xs : List A) (n m : ℕ) (q : ℕ → ℕ → Bool) → length xs ≡ n * m
    → ((s t : ℕ) → s < n → t < m → p (get_or xs (s * m + t) none) ≡ q s t) → count_by p xs ≡ sum n (λ s. sum m (λ t. cond (q s t) 1 0))
passing_rows none p xs n m q long same =
    (rw (take-length xs) at (sum_of_first (λ x. cond (p x) 1 0) (length xs) xs none (omega arith)))
    ∙ ap (λ k. sum k (λ i. cond (p (get_or xs i none)) 1 0)) long
    ∙ sum_rows n m (λ i. cond (p (get_or xs i none)) 1 0)
    ∙ sum_same n _ _ (λ s hs. sum_same m _ _ (λ t ht. ap (λ b. cond b 1 0) (same s t hs ht)))
