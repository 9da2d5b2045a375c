-- Rows that are put in one after the other.
use Rattle.std.proofs.Common.{◌≡◌, ℕ, ◌+◌, ◌≤◌, List, [], ◌∷◌, ◌++◌, map, zero-add, append_assoc, arith}
use Rattle.std.proofs.lemmas.List.{map-append, map-id, append-nil}
use Rattle.std.proofs.lemmas.List.FromFn.{map-range_with_len_more}
use Rattle.std.proofs.lemmas.Grind.{flat_map-append}
use Rattle.std.specs.List.{flat_map, range_with_len}
use Rattle.script.specs.Report.{pairs_with}

range_more : (n : ℕ) → range_with_len 0 (n + 1) ≡ range_with_len 0 n ++ n ∷ []
range_more n = simp map-id at (map-range_with_len_more (λ k. k) 0 n n (zero-add n))

-- no pair of a section yet
pub row_none : (ps : List (ℕ × ℕ)) (s : ℕ) → ps ++ pairs_with 0 s ≡ ps
row_none ps s = append-nil ps

-- the row of one more pair
pub row_more : {X : Type 0} (f : ℕ × ℕ → X) (ps : List (ℕ × ℕ)) (s t : ℕ) → map f (ps ++ pairs_with (t + 1) s) ≡ map f (ps ++ pairs_with t s) ++ f (s, t) ∷ []
row_more f ps s t = rw (map-range_with_len_more {X = ℕ × ℕ} (λ k. (s, k)) 0 t t (zero-add t)) (simp (map-append, append_assoc))

-- the pairs of one more section, with all n
pub section_more : (n s t : ℕ) → n ≤ t → t ≤ n → flat_map (pairs_with n) (range_with_len 0 s) ++ pairs_with t s ≡ flat_map (pairs_with n) (range_with_len 0 (s + 1))
section_more n s t low high = let all : t ≡ n = omega arith in rw all (simp (range_more, flat_map-append, append-nil))
