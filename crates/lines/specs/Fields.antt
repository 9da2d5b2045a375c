-- The fields of a line: its longest runs of bytes that are no blanks.
use Rattle.std.specs.Prelude.{ℕ, Bool, false, cond, not, ◌||◌, List, [], ◌∷◌, ◌==◌}

-- a space, a tab or a carriage return
abbrev pub blank : ℕ → Bool
blank b = b == 32 || (b == 9 || b == 13)

-- whether the bytes begin with a field
abbrev pub begins : List ℕ → Bool
begins [] = false
begins (b ∷ bs) = not (blank b)

-- the fields with b in front of the first
abbrev pub extended : ℕ → List (List ℕ) → List (List ℕ)
extended b [] = (b ∷ []) ∷ []
extended b (f ∷ fs) = (b ∷ f) ∷ fs

-- a byte that is no blank joins the field that follows at once, and else is a field of its own
unfoldable pub fields : List ℕ → List (List ℕ)
fields [] = []
fields (b ∷ bs) = cond (blank b) (fields bs) (cond (begins bs) (extended b (fields bs)) ((b ∷ []) ∷ fields bs))
