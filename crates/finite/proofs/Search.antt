-- Lemmas on searches, and on the first of several checks.
use Rattle.std.proofs.Common.{◌≡◌, ℕ, zero, suc, ◌<◌, Bool, true, false, List, [], ◌∷◌, Some, None, Option, is_some, sym, refl, ap, ◌∙◌, ⊎_elim, arith}
use Rattle.std.specs.Option.{option_map}
use Rattle.std.proofs.lemmas.Bool.{cases_eq}
use Rattle.finite.specs.Search.{given, first_of, least}

pub first_of_none : {X : Type 0} (o : Option X) (os : List (Option X)) → first_of (o ∷ os) ≡ None → (o ≡ None) × (first_of os ≡ None)
first_of_none (Some x) os e = absurd (cc e)
first_of_none None os e = (refl, e)

pub given_none : {X : Type 0} (b : Bool) (x : X) → given b x ≡ None → b ≡ false
given_none true x e = absurd (cc e)
given_none false x e = refl

pub mapped_none : {X Y : Type 0} (f : X → Y) (o : Option X) → option_map f o ≡ None → o ≡ None
mapped_none f (Some x) e = absurd (cc e)
mapped_none f None e = refl

-- where there is no least number, none passes
pub least_none_at : (n : ℕ) (p : ℕ → Bool) → least n p ≡ None → (i : ℕ) → i < n → p i ≡ false
least_none_at zero p e i l = absurd (omega arith)
least_none_at (suc n) p e i l =
    let both = first_of_none (least n p) (given (p n) n ∷ []) e in
    let last = first_of_none (given (p n) n) [] both.1 in
    ⊎_elim (λ same. ap p same ∙ given_none (p n) n last.0) (λ d. least_none_at n p both.0 i (omega arith)) (cases_eq i n)

pub least_none : (n : ℕ) (p : ℕ → Bool) → ((i : ℕ) → i < n → p i ≡ false) → least n p ≡ None
least_none zero p h = refl
least_none (suc n) p h = rw (least_none n p (λ i l. h i (omega arith)), h n (omega arith))

pub least_found : (n : ℕ) (p : ℕ → Bool) (i : ℕ) → i < n → p i ≡ true → ((k : ℕ) → k < i → p k ≡ false) → least n p ≡ Some i
least_found zero p i l here before = absurd (omega arith)
least_found (suc n) p i l here before =
    ⊎_elim
    (λ same. rw (least_none n p (λ k b. before k (omega arith)), sym (ap p same) ∙ here) (ap Some (sym same)))
    (λ d. rw (least_found n p i (omega arith) here before))
    (cases_eq i n)

-- i is below n, it passes, and none before it does
pub record LeastAt (n : ℕ) (p : ℕ → Bool) (i : ℕ) : Type 0 where
  pub within : i < n
  pub passes : p i ≡ true
  pub before : (k : ℕ) → k < i → p k ≡ false

pub least_at : (n : ℕ) (p : ℕ → Bool) (i : ℕ) → least n p ≡ Some i → LeastAt n p i
least_at zero p i e = absurd (cc e)
least_at (suc n) p i e = at (least n p) (p n) refl refl (least_at n p i) e where
  at : (o : Option ℕ) (b : Bool) → least n p ≡ o → p n ≡ b → (least n p ≡ Some i → LeastAt n p i) → first_of (o ∷ given b n ∷ []) ≡ Some i → LeastAt (suc n) p i
  at (Some k) b eo eb rec h = let l = rec (eo ∙ h) in record { within = omega (arith, l.within); passes = l.passes; before = l.before }
  at None true eo eb rec h = let same : n ≡ i = cc h in record { within = omega arith; passes = ap p (sym same) ∙ eb; before = λ k l. least_none_at n p eo k (omega arith) }
  at None false eo eb rec h = absurd (cc h)

pub least_same : (n : ℕ) (p q : ℕ → Bool) → ((i : ℕ) → i < n → p i ≡ q i) → least n p ≡ least n q
least_same zero p q h = refl
least_same (suc n) p q h = rw (least_same n p q (λ i l. h i (omega arith)), h n (omega arith))

-- whether there is a least number, and one that passes
pub some_least : (n : ℕ) (p : ℕ → Bool) → is_some (least n p) ≡ true → (i : ℕ) × (i < n) × (p i ≡ true)
some_least n p e = by (least n p) refl e where
  by : (o : Option ℕ) → least n p ≡ o → is_some o ≡ true → (i : ℕ) × (i < n) × (p i ≡ true)
  by (Some i) is h = let l = least_at n p i is in (i, l.within, l.passes)
  by None is h = absurd (cc h)

pub least_some : (n : ℕ) (p : ℕ → Bool) (i : ℕ) → i < n → p i ≡ true → is_some (least n p) ≡ true
least_some n p i l e = by (least n p) refl where
  by : (o : Option ℕ) → least n p ≡ o → is_some o ≡ true
  by (Some k) is = refl
  by None is = absurd (cc (e, least_none_at n p is i l))
