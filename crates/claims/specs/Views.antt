-- What the claims of the code and the marks of those that are shown stand for. Outside the 32 sections that they have room for, nothing is claimed or shown.
use Rattle.std.specs.Prelude.{ℕ, ◌+◌, ◌*◌, max, false, cond, ◌&&◌, List, [], ◌∷◌, Some, None, Option, nat_lt, slice_index_or}
use Rattle.history.specs.Rules.{Draft, Marks}
use Rattle.claims.specs.declared.closed.ClosedDraft.{ClosedDraft}
use Rattle.claims.specs.declared.draft.Claims.{Claims}

-- what lies row by row, 32 to a row
abbrev pub grid : {A : Type 0} → A → List A → ℕ → ℕ → A
grid none xs s t = cond (nat_lt s 32 && nat_lt t 32) (slice_index_or xs (s * 32 + t) none) none

abbrev pub values_of : Claims → Draft
values_of c = grid None c.values

abbrev pub marks_of : ClosedDraft → Marks
marks_of d = grid false d.shown

-- the greatest value, 0 where there is none
abbrev pub highest : List (Option ℕ) → ℕ
highest [] = 0
highest (None ∷ xs) = highest xs
highest (Some v ∷ xs) = max v (highest xs)
