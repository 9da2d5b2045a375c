-- The least number that passes a test, and the first of several checks that fails.
use Rattle.std.specs.Prelude.{ℕ, zero, suc, Bool, true, false, List, [], ◌∷◌, Some, None, Option}

-- x where the test passes
abbrev pub given : {X : Type 0} → Bool → X → Option X
given true x = Some x
given false x = None

-- the first that is there
abbrev pub first_of : {X : Type 0} → List (Option X) → Option X
first_of [] = None
first_of (Some x ∷ os) = Some x
first_of (None ∷ os) = first_of os

-- the least number below n that passes the test
abbrev pub least : ℕ → (ℕ → Bool) → Option ℕ
least zero p = None
least (suc n) p = first_of (least n p ∷ given (p n) n ∷ [])
