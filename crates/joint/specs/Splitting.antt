-- How the words of a showing are shared out between the two sittings.
use Rattle.std.specs.Prelude.{zero, suc, cond, List, [], ◌∷◌, length, take, drop, ℤ, pos, negsuc, nat_le, Some, None, Option}

-- a pairing: a word k, then k words for sitting 0, then the rest for sitting 1
abbrev pub split : List ℤ → Option (List ℤ × List ℤ)
split [] = None
split (negsuc k ∷ ws) = None
split (pos k ∷ ws) = cond (nat_le k (length ws)) (Some (take k ws, drop k ws)) None

-- potentials go to one sitting
pub data Addressed : Type 0 where
  to_first : List ℤ → Addressed
  to_second : List ℤ → Addressed
  to_neither : Addressed

-- the first word is the number of the sitting, and the rest goes to it
abbrev pub addressed : List ℤ → Addressed
addressed [] = to_neither
addressed (negsuc k ∷ ws) = to_neither
addressed (pos zero ∷ ws) = to_first ws
addressed (pos (suc zero) ∷ ws) = to_second ws
addressed (pos (suc (suc k)) ∷ ws) = to_neither
