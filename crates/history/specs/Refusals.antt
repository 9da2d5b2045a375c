-- Each refusal's number, and what it carries.
use Rattle.std.specs.Prelude.{ℕ, List, [], ◌∷◌}
use Rattle.history.specs.declared.refusal.Refusal.{Refusal}
use Rattle.history.specs.declared.refusal.Refusal.TheVariants.{NotResting, NotClaiming, ClaimOutside, ClaimApart, ClaimedTwice, ClaimValue, CloseNotClaiming, NoClaims, NotShowing, ShowOutside, NoClaim, ShownAlready, Fault, Bound, EnterNotShowing, Unshown, Resting, AskOutside}

abbrev pub number : {F : Type 0} → Refusal F → ℕ
number NotResting = 20
number NotClaiming = 30
number ClaimOutside = 31
number ClaimApart = 32
number ClaimedTwice = 33
number ClaimValue = 34
number CloseNotClaiming = 40
number NoClaims = 41
number NotShowing = 50
number ShowOutside = 51
number NoClaim = 52
number ShownAlready = 53
number (Fault f) = 54
number (Bound side c) = 55
number EnterNotShowing = 60
number (Unshown s t) = 61
number Resting = 70
number AskOutside = 80

-- what a refusal carries, where the first argument tells the numbers of a fault
abbrev pub carried : {F : Type 0} → (F → List ℕ) → Refusal F → List ℕ
carried fault NotResting = []
carried fault NotClaiming = []
carried fault ClaimOutside = []
carried fault ClaimApart = []
carried fault ClaimedTwice = []
carried fault ClaimValue = []
carried fault CloseNotClaiming = []
carried fault NoClaims = []
carried fault NotShowing = []
carried fault ShowOutside = []
carried fault NoClaim = []
carried fault ShownAlready = []
carried fault (Fault f) = fault f
carried fault (Bound side c) = c ∷ []
carried fault EnterNotShowing = []
carried fault (Unshown s t) = s ∷ t ∷ []
carried fault Resting = []
carried fault AskOutside = []
