-- What lies row by row: all the same, with one place changed, and laid over a table.
use Rattle.std.proofs.Common.{◌≡◌, ℕ, zero, suc, ◌+◌, ◌*◌, ◌<◌, ◌≤◌, length, max, Bool, true, false, cond, ◌&&◌, ltb, List, [], ◌∷◌, get_or, set, replicate, Some, None, Option, unwrap_or, refl, ap, ⊎_elim, arith}
use mathlib.Core.Path.{fun_ext}
use Rattle.std.proofs.lemmas.Bool.{cases_lt, cond_both}
use Rattle.std.proofs.lemmas.Grind.{common_steps}
use Rattle.std.proofs.lemmas.List.{get_or-replicate, get_or_past, length-replicate}
use Rattle.chart.specs.Cells.{cell_index}
use Rattle.chart.specs.declared.table.Table.{Table}
use Rattle.chart.specs.Tables.{cell, capped, distances, overlaid}
use Rattle.history.specs.Rules.{put, laid, over}
use Rattle.claims.specs.Views.{grid, highest}

same_at : {A : Type 0} (n : ℕ) (x : A) (k : ℕ) → get_or (replicate n x) k x ≡ x
same_at n x k = ⊎_elim (get_or-replicate n k x x) (λ l. get_or_past (replicate n x) k x (omega (arith, length-replicate n x))) (cases_lt k n)

pub grid_same : {A : Type 0} (n : ℕ) (x : A) → grid x (replicate n x) ≡ (λ s t. x)
grid_same n x = fun_ext (λ s. fun_ext (λ t. cond_both (ltb s 32 && ltb t 32) (get_or (replicate n x) (s * 32 + t) x) x (λ y. y ≡ x) (λ _. same_at n x (s * 32 + t)) (λ _. refl)))

-- the cell that was found is the pair's
pub found : (s t i : ℕ) → Some i ≡ cell_index s t → (i ≡ s * 32 + t) × (s < 32) × (t < 32)
found s t i at = (grind (arith, common_steps), grind (arith, common_steps), grind (arith, common_steps))

pub grid_set : {A : Type 0} (none : A) (xs : List A) (s t i : ℕ) (x : A) → Some i ≡ cell_index s t → length xs ≡ 1024 → grid none (set xs i x) ≡ put s t x (grid none xs)
grid_set none xs s t i x at long = let (is, hs, ht) = found s t i at in grind (arith, common_steps)

pub highest_set : (xs : List (Option ℕ)) (k v : ℕ) → highest (set xs k (Some v)) ≤ max (highest xs) v
highest_set [] k v = omega arith
highest_set (None ∷ xs) zero v = omega arith
highest_set (None ∷ xs) (suc k) v = highest_set xs k v
highest_set (Some w ∷ xs) zero v = omega arith
highest_set (Some w ∷ xs) (suc k) v = omega (arith, highest_set xs k v)

highest_at : (xs : List (Option ℕ)) (k v : ℕ) → get_or xs k None ≡ Some v → v ≤ highest xs
highest_at [] k v e = absurd (cc e)
highest_at (None ∷ xs) zero v e = absurd (cc e)
highest_at (None ∷ xs) (suc k) v e = highest_at xs k v e
highest_at (Some w ∷ xs) zero v e = let z : w ≡ v = cc in omega arith
highest_at (Some w ∷ xs) (suc k) v e = omega (arith, highest_at xs k v e)

-- a claim that is not above the top counts as it is
laid_cell : (b : Bool) (o : Option ℕ) (x top : ℕ) → ((v : ℕ) → o ≡ Some v → v ≤ top)
    → cond b (capped o (cond b x top) top) top ≡ unwrap_or (cond b o None) (cond b x top)
laid_cell true None x top h = refl
laid_cell true (Some v) x top h = omega (arith, h v refl)
laid_cell false o x top h = refl

-- claims that are not above the top, laid over a table
pub laid_within : (vs : List (Option ℕ)) (d : Table) → highest vs ≤ (distances d).top → overlaid vs (distances d) ≡ over (distances d).top (laid (grid None vs) (distances d).entry)
laid_within vs d h =
    ap (over d.top.value) (fun_ext (λ s. fun_ext (λ t.
    laid_cell (ltb s 32 && ltb t 32) (get_or vs (s * 32 + t) None) (cell d.cells s t) d.top.value (λ v e. omega (arith, h, highest_at vs (s * 32 + t) v e)))))
