-- The words of a pairing as the code reads them, two by two.
use Rattle.std.proofs.Common.{◌≡◌, ℕ, ◌+◌, ◌*◌, ◌<◌, List, [], get_or, ℤ, pos, w32, SFits, to_z, of_z, ◌∙◌}
use Rattle.std.specs.Simd.{first_chunks}
use Rattle.std.proofs.lemmas.Int.{to_z-of_z}
use Rattle.finite.proofs.Lists.{chunk_at}
use Rattle.chart.specs.Words.{word}
use Rattle.transitions.specs.Pairing.{pairs}

-- the word i of the chunk j, as the code reads it
pub read : (ws : List ℤ) (chunks : List (List ℤ)) (j i : ℕ) → chunks ≡ first_chunks 2 (pairs ws) ws → j < pairs ws → i < 2 → SFits w32 (get_or (get_or chunks j []) i (pos 0))
    → to_z w32 (of_z w32 (get_or (get_or chunks j []) i (pos 0))) ≡ word ws (2 * j + i)
read ws chunks j i e l h fits = to_z-of_z w32 _ fits ∙ rw e (chunk_at 2 (pairs ws) j i ws (pos 0) l h)
