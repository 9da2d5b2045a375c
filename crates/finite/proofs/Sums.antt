-- Laws of sums over the numbers below n, and of the greatest of several numbers.
use Rattle.std.proofs.Common.{◌≡◌, ℕ, zero, suc, ◌+◌, ◌*◌, ◌<◌, ◌≤◌, max, cond, eqb, ℤ, sym, refl, subst, ap, ◌∙◌, ⊎_elim, mul_comm, arith}
use borrow.Author.Differences.{up, down, sum_is_lem}
use Rattle.std.proofs.lemmas.Bool.{cases_lt, cases_eq}
use Rattle.std.proofs.lemmas.Bool.Decides.{nat_tests}
use Rattle.finite.specs.Sums.{sum, sumℤ, greatest}

pub sum_same : (n : ℕ) (f g : ℕ → ℕ) → ((i : ℕ) → i < n → f i ≡ g i) → sum n f ≡ sum n g
sum_same zero f g h = refl
sum_same (suc n) f g h = omega (arith, sum_same n f g (λ i l. h i (omega arith)), h n (omega arith))

pub sum_le : (n : ℕ) (f g : ℕ → ℕ) → ((i : ℕ) → i < n → f i ≤ g i) → sum n f ≤ sum n g
sum_le zero f g h = omega arith
sum_le (suc n) f g h = omega (arith, sum_le n f g (λ i l. h i (omega arith)), h n (omega arith))

pub sum_add : (n : ℕ) (f g : ℕ → ℕ) → sum n (λ i. f i + g i) ≡ sum n f + sum n g
sum_add zero f g = refl
sum_add (suc n) f g = omega (arith, sum_add n f g)

pub sum_mul : (n k : ℕ) (f : ℕ → ℕ) → sum n (λ i. k * f i) ≡ k * sum n f
sum_mul zero k f = omega arith
sum_mul (suc n) k f = omega (arith, sum_mul n k f)

pub sum_none : (n : ℕ) (f : ℕ → ℕ) → ((i : ℕ) → i < n → f i ≡ 0) → sum n f ≡ 0
sum_none zero f h = refl
sum_none (suc n) f h = omega (arith, sum_none n f (λ i l. h i (omega arith)), h n (omega arith))

pub term_le_sum : (n : ℕ) (f : ℕ → ℕ) (i : ℕ) → i < n → f i ≤ sum n f
term_le_sum zero f i l = absurd (omega arith)
term_le_sum (suc n) f i l = ⊎_elim (λ e. omega (arith, ap f e)) (λ d. omega (arith, term_le_sum n f i (omega arith))) (cases_eq i n)

-- the two orders of a double sum
pub sum_swap : (n m : ℕ) (f : ℕ → ℕ → ℕ) → sum n (λ i. sum m (f i)) ≡ sum m (λ j. sum n (λ i. f i j))
sum_swap zero m f = sym (sum_none m (λ j. 0) (λ j l. refl))
sum_swap (suc n) m f = omega (arith, sum_swap n m f, sum_add m (λ j. sum n (λ i. f i j)) (f n))

-- of f u, only that at x
pub sum_one : (n : ℕ) (f : ℕ → ℕ) (x : ℕ) → x < n → sum n (λ u. cond (eqb x u) (f u) 0) ≡ f x
sum_one zero f x l = absurd (omega arith)
sum_one (suc n) f x l =
    ⊎_elim
    (λ e. let none = sum_none n (λ u. cond (eqb x u) (f u) 0) (λ i k. grind (arith, nat_tests)) in grind (arith, nat_tests))
    (λ d. let rest = sum_one n f x (omega arith) in grind (arith, nat_tests))
    (cases_eq x n)

pub sum_mul_right : (n k : ℕ) (f : ℕ → ℕ) → sum n (λ i. f i * k) ≡ sum n f * k
sum_mul_right n k f = sum_same n _ _ (λ i l. mul_comm (f i) k) ∙ sum_mul n k f ∙ mul_comm k (sum n f)

-- what lies at the places y j, added up place by place
pub sum_places : (n m : ℕ) (y g : ℕ → ℕ) → ((j : ℕ) → j < m → y j < n) → sum n (λ v. sum m (λ j. cond (eqb (y j) v) (g j) 0)) ≡ sum m g
sum_places n m y g inside = sum_swap n m (λ v j. cond (eqb (y j) v) (g j) 0) ∙ sum_same m _ _ (λ j l. sum_one n (λ _. g j) (y j) (inside j l))

-- a signed sum, by the sums of its parts
pub sumℤ_parts : (n : ℕ) (f : ℕ → ℤ) → up (sumℤ n f) + sum n (λ i. down (f i)) ≡ down (sumℤ n f) + sum n (λ i. up (f i))
sumℤ_parts zero f = refl
sumℤ_parts (suc n) f = omega (arith, sumℤ_parts n f, sum_is_lem (sumℤ n f) (f n))

pub sumℤ_same : (n : ℕ) (f g : ℕ → ℤ) → ((i : ℕ) → i < n → f i ≡ g i) → sumℤ n f ≡ sumℤ n g
sumℤ_same zero f g h = refl
sumℤ_same (suc n) f g h = rw (sumℤ_same n f g (λ i l. h i (omega arith)), h n (omega arith))

pub term_le_greatest : (n : ℕ) (f : ℕ → ℕ) (i : ℕ) → i < n → f i ≤ greatest n f
term_le_greatest zero f i l = absurd (omega arith)
term_le_greatest (suc n) f i l = ⊎_elim (λ e. omega (arith, ap f e)) (λ d. omega (arith, term_le_greatest n f i (omega arith))) (cases_eq i n)

-- what holds of 0 and of each number holds of the greatest
pub greatest_is : (P : ℕ → Type 0) (n : ℕ) (f : ℕ → ℕ) → P 0 → ((i : ℕ) → i < n → P (f i)) → P (greatest n f)
greatest_is P zero f none h = none
greatest_is P (suc n) f none h =
    ⊎_elim
    (λ l. let last : f n ≡ max (greatest n f) (f n) = omega arith in subst P last (h n (omega arith)))
    (λ l. let before : greatest n f ≡ max (greatest n f) (f n) = omega arith in subst P before (greatest_is P n f none (λ i k. h i (omega arith))))
    (cases_lt (greatest n f) (f n))
