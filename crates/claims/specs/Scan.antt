-- Claims that are not shown, and the first pair that has one, by the first section and then by the second.
use Rattle.std.specs.Prelude.{◌≡◌, ℕ, ◌<◌, Bool, true, false, not, ◌&&◌, List, is_some, Some, None, Option}
use Rattle.std.specs.List.{count_by, zip}
use Rattle.history.specs.Rules.{Draft, Before}

-- the pair has a claim that is not shown
abbrev pub waits : Draft → (ℕ → ℕ → Bool) → ℕ → ℕ → Bool
waits d b s t = is_some (d s t) && not (b s t)

abbrev pub First : Draft → (ℕ → ℕ → Bool) → Option (ℕ × ℕ) → Type 0
First d b None = (x y : ℕ) → x < 32 → y < 32 → waits d b x y ≡ false
First d b (Some p) = (p.0 < 32) × (p.1 < 32) × (waits d b p.0 p.1 ≡ true) × ((x y : ℕ) → x < 32 → y < 32 → Before x y p.0 p.1 → waits d b x y ≡ false)

-- how many values there are beside which no mark stands
abbrev pub unmarked : List (Option ℕ) → List Bool → ℕ
unmarked values marks = count_by (λ p. is_some p.0 && not p.1) (zip values marks)
