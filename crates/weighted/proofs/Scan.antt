-- A scan of the pairs (u, v) below n, by u and then by v: the pair has the place u * n + v.
use Rattle.std.proofs.Common.{◌≡◌, ℕ, ◌+◌, ◌-◌, ◌*◌, ◌/◌, ◌%◌, ◌<◌, Bool, true, false, Some, ⊎_elim, arith}
use Rattle.std.proofs.lemmas.Nat.{div-mul-add, mod-mul-add, mul-add-lt}
use Rattle.std.proofs.lemmas.Bool.{cases_lt, cases_eq}
use Rattle.finite.specs.Search.{least}
use Rattle.finite.proofs.Search.{least_found}

module _ (n : ℕ) (bad : ℕ → ℕ → Bool) where
  -- no pair before the place i is bad
  abbrev pub Clear : ℕ → Type 0
  Clear i = (k : ℕ) → k < i → bad (k / n) (k % n) ≡ false

  at_pair : (u v : ℕ) → v < n → (b : Bool) → bad u v ≡ b → bad ((u * n + v) / n) ((u * n + v) % n) ≡ b
  at_pair u v l b e = rw (div-mul-add u n v l, mod-mul-add u n v l) e

  pub clear_cell : (u v : ℕ) → v < n → Clear (u * n + v) → bad u v ≡ false → Clear (u * n + (v + 1))
  clear_cell u v l h e k b = ⊎_elim (λ same. rw same (at_pair u v l false e)) (λ d. h k (omega arith)) (cases_eq k (u * n + v))

  pub clear_skip : (u : ℕ) → Clear (u * n) → ((v : ℕ) → v < n → bad u v ≡ false) → Clear ((u + 1) * n)
  clear_skip u h e k b =
      ⊎_elim (h k)
      (λ l. let same : u * n + (k - u * n) ≡ k = omega arith in
      rw (← same) (at_pair u (k - u * n) (omega arith) false (e (k - u * n) (omega arith))))
      (cases_lt k (u * n))

  pub scan_found : (u v : ℕ) → u < n → v < n → Clear (u * n + v) → bad u v ≡ true → least (n * n) (λ i. bad (i / n) (i % n)) ≡ Some (u * n + v)
  scan_found u v lu lv h e = least_found (n * n) _ (u * n + v) (mul-add-lt u n v n lu lv) (at_pair u v lv true e) h
