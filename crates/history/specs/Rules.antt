-- The rules of a register's calls: on which grounds a call is refused, what an accepted call answers and does, and runs of calls.
use Rattle.std.specs.Prelude.{◌≡◌, ℕ, ◌<◌, ◌≤◌, Bool, true, false, cond, not, ◌&&◌, ◌≢◌, ◌⊎◌, List, [], ◌∷◌, ℤ, is_some, Some, None, Ok, Err, Option, Result, ◌==◌}
use Rattle.std.specs.Option.{unwrap_or}
use Rattle.finite.specs.Sums.{sum}
use Rattle.chart.specs.declared.side.Side.{Side}
use Rattle.chart.specs.declared.side.Side.TheVariants.{Upper, Lower}
use Rattle.chart.specs.Distances.{Distances}
use Rattle.chart.specs.Meaning.{Meaning}
use Rattle.chart.specs.Starting.{judged_pair, start_entry}
use Rattle.history.specs.declared.verdict.Verdict.{Verdict}
use Rattle.history.specs.declared.verdict.Verdict.TheVariants as verdict
use Rattle.history.specs.declared.refusal.Refusal.{Refusal}
use Rattle.history.specs.declared.refusal.Refusal.TheVariants.{NotResting, NotClaiming, ClaimOutside, ClaimApart, ClaimedTwice, ClaimValue, CloseNotClaiming, NoClaims, NotShowing, ShowOutside, NoClaim, ShownAlready, Fault, Bound, EnterNotShowing, Unshown, Resting, AskOutside}
use Rattle.history.specs.Refusals.{number}
use Rattle.history.specs.Calls.{Call, Open, Claim, Close, Show, Enter, Abandon, Ask, Answer, count, entries, Page}

-- f with x at (s, t)
abbrev pub put : {A : Type 0} → ℕ → ℕ → A → (ℕ → ℕ → A) → ℕ → ℕ → A
put s t x f i j = cond (i == s && j == t) x (f i j)

-- a draft has at most one claim for each pair
abbrev pub Draft : Type 0
Draft = ℕ → ℕ → Option ℕ

-- which claims are shown
abbrev pub Marks : Type 0
Marks = ℕ → ℕ → Bool

-- the draft's claims laid over entries
abbrev pub laid : Draft → (ℕ → ℕ → ℕ) → ℕ → ℕ → ℕ
laid d f s t = unwrap_or (d s t) (f s t)

-- no draft, a draft that takes claims, and one that takes showings
pub data Phase : Type 0 where
  resting : Phase
  claiming : Side → Draft → Phase
  showing : Side → Draft → Marks → Phase

pub record State : Type 0 where
  pub upper : ℕ → ℕ → ℕ
  pub lower : ℕ → ℕ → ℕ
  pub phase : Phase

-- how many pairs pass a test; a chart has at most 32 sections
abbrev pub how_many : (ℕ → ℕ → Bool) → ℕ
how_many f = sum 32 (λ s. sum 32 (λ t. cond (f s t) 1 0))

abbrev pub claims : Draft → ℕ
claims d = how_many (λ s t. is_some (d s t))

abbrev pub unshown : Draft → Marks → ℕ
unshown d b = how_many (λ s t. is_some (d s t) && not (b s t))

abbrev pub at_side : Side → (ℕ → ℕ → ℕ) → (ℕ → ℕ → ℕ) → ℕ → ℕ → ℕ
at_side Upper upper lower = upper
at_side Lower upper lower = lower

-- the entries of a side
abbrev pub side_of : Side → State → ℕ → ℕ → ℕ
side_of e σ = at_side e σ.upper σ.lower

abbrev pub with_phase : State → Phase → State
with_phase σ p = record { upper = σ.upper; lower = σ.lower; phase = p }

-- the draft's claims stand in the side's table, and no draft is left
abbrev pub written : Side → Draft → State → State
written Upper d σ = record { upper = laid d σ.upper; lower = σ.lower; phase = resting }
written Lower d σ = record { upper = σ.upper; lower = laid d σ.lower; phase = resting }

abbrev pub draft_of : Phase → Draft
draft_of resting s t = None
draft_of (claiming e d) s t = d s t
draft_of (showing e d b) s t = d s t

-- (x, y) comes before (s, t), by the first section and then the second
abbrev pub Before : ℕ → ℕ → ℕ → ℕ → Type 0
Before x y s t = (x < s) ⊎ ((x ≡ s) × (y < t))

-- the strongest claim c that a showing shows does not reach the claim v
abbrev pub Short : Side → ℕ → ℕ → Type 0
Short Upper c v = v < c
Short Lower c v = c < v

-- of whether two sections are apart, and whether their entries are equal
abbrev pub verdict_of : Bool → Bool → Verdict
verdict_of true equal = verdict.Apart
verdict_of false true = verdict.Settled
verdict_of false false = verdict.Open

-- a table over a top
abbrev pub over : ℕ → (ℕ → ℕ → ℕ) → Distances
over top f = record { top = top; entry = f }

module _ {F : Type 0} (m : Meaning F) (K : ℕ) where
  -- a pair of which the chart has not both sections
  abbrev pub Outside : ℕ → ℕ → Type 0
  Outside s t = (m.sections ≤ s) ⊎ (m.sections ≤ t)

  -- a showing is weighed in the table of the draft's side with all of the draft's claims laid over it
  abbrev pub weighed_in : Side → Draft → State → Distances
  weighed_in e d σ = over K (laid d (side_of e σ))

  -- an upper value above the entry; a lower value below the entry or above the top
  abbrev pub Unfit : Side → State → ℕ → ℕ → ℕ → Type 0
  Unfit Upper σ s t v = σ.upper s t < v
  Unfit Lower σ s t v = (v < σ.lower s t) ⊎ (K < v)

  -- the grounds on which a call can be refused
  pub data Ground (σ : State) : Call → Refusal F → Type 0 where
    open_20 : {e : Side} → σ.phase ≢ resting → Ground σ (Open e) NotResting
    claim_30 : {s t v : ℕ} → ((e : Side) (d : Draft) → σ.phase ≢ claiming e d) → Ground σ (Claim s t v) NotClaiming
    claim_31 : {s t v : ℕ} → Outside s t → Ground σ (Claim s t v) ClaimOutside
    claim_32 : {s t v : ℕ} → m.apart s t ≡ true → Ground σ (Claim s t v) ClaimApart
    claim_33 : {s t v : ℕ} (e : Side) (d : Draft) (w : ℕ) → σ.phase ≡ claiming e d → d s t ≡ Some w → Ground σ (Claim s t v) ClaimedTwice
    claim_34 : {s t v : ℕ} (e : Side) (d : Draft) → σ.phase ≡ claiming e d → Unfit e σ s t v → Ground σ (Claim s t v) ClaimValue
    close_40 : ((e : Side) (d : Draft) → σ.phase ≢ claiming e d) → Ground σ Close CloseNotClaiming
    close_41 : (e : Side) (d : Draft) → σ.phase ≡ claiming e d → claims d ≡ 0 → Ground σ Close NoClaims
    show_50 : {s t : ℕ} {ws : List ℤ} → ((e : Side) (d : Draft) (b : Marks) → σ.phase ≢ showing e d b) → Ground σ (Show s t ws) NotShowing
    show_51 : {s t : ℕ} {ws : List ℤ} → Outside s t → Ground σ (Show s t ws) ShowOutside
    show_52 : {s t : ℕ} {ws : List ℤ} (e : Side) (d : Draft) (b : Marks) → σ.phase ≡ showing e d b → d s t ≡ None → Ground σ (Show s t ws) NoClaim
    show_53 : {s t : ℕ} {ws : List ℤ} (e : Side) (d : Draft) (b : Marks) → σ.phase ≡ showing e d b → b s t ≡ true → Ground σ (Show s t ws) ShownAlready
    show_54 : {s t : ℕ} {ws : List ℤ} (e : Side) (d : Draft) (b : Marks) (f : F) → σ.phase ≡ showing e d b
        → m.weigh e (weighed_in e d σ) s t ws ≡ Err f → Ground σ (Show s t ws) (Fault f)
    show_55 : {s t : ℕ} {ws : List ℤ} (e : Side) (d : Draft) (b : Marks) (v c : ℕ) → σ.phase ≡ showing e d b → d s t ≡ Some v
        → m.weigh e (weighed_in e d σ) s t ws ≡ Ok c → Short e c v → Ground σ (Show s t ws) (Bound e c)
    enter_60 : ((e : Side) (d : Draft) (b : Marks) → σ.phase ≢ showing e d b) → Ground σ Enter EnterNotShowing
    enter_61 : (e : Side) (d : Draft) (b : Marks) (s t v : ℕ) → σ.phase ≡ showing e d b → s < 32 → t < 32 → d s t ≡ Some v → b s t ≡ false
        → ((x y w : ℕ) → x < 32 → y < 32 → Before x y s t → d x y ≡ Some w → b x y ≡ true) → Ground σ Enter (Unshown s t)
    abandon_70 : σ.phase ≡ resting → Ground σ Abandon Resting
    ask_80 : {s t : ℕ} → Outside s t → Ground σ (Ask s t) AskOutside

  -- what an accepted call answers, and the state that it leads to
  pub data Effect (σ : State) : Call → Answer → State → Type 0 where
    opens : {e : Side} → Effect σ (Open e) (count 0) (with_phase σ (claiming e (λ s t. None)))
    claimed : {s t v : ℕ} (e : Side) (d : Draft) → σ.phase ≡ claiming e d
        → Effect σ (Claim s t v) (count (claims (put s t (Some v) d))) (with_phase σ (claiming e (put s t (Some v) d)))
    closes : (e : Side) (d : Draft) → σ.phase ≡ claiming e d → Effect σ Close (count (claims d)) (with_phase σ (showing e d (λ s t. false)))
    shown : {s t : ℕ} {ws : List ℤ} (e : Side) (d : Draft) (b : Marks) → σ.phase ≡ showing e d b
        → Effect σ (Show s t ws) (count (unshown d (put s t true b))) (with_phase σ (showing e d (put s t true b)))
    enters : (e : Side) (d : Draft) (b : Marks) → σ.phase ≡ showing e d b → Effect σ Enter (count (claims d)) (written e d σ)
    abandons : Effect σ Abandon (count (claims (draft_of σ.phase))) (with_phase σ resting)
    asks : {s t : ℕ} → Effect σ (Ask s t) (entries (σ.lower s t) (σ.upper s t) (verdict_of (m.apart s t) (σ.lower s t == σ.upper s t))) σ

  -- one call: it is refused on the ground of the least number, and nothing changes, or there is no ground and it is accepted
  pub data Step (σ : State) : Call → Result Answer (Refusal F) → State → Type 0 where
    refuses : {c : Call} (r : Refusal F) → Ground σ c r → ((q : Refusal F) → Ground σ c q → number r ≤ number q) → Step σ c (Err r) σ
    accepts : {c : Call} {a : Answer} {τ : State} → ((q : Refusal F) → Ground σ c q → ⊥) → Effect σ c a τ → Step σ c (Ok a) τ

  -- the pages lead from one state to the other
  pub data Run : State → List (Page F) → State → Type 0 where
    rest : {σ : State} → Run σ [] σ
    turn : {σ ρ τ : State} {p : Page F} {ps : List (Page F)} → Step σ p.call p.outcome ρ → Run ρ ps τ → Run σ (p ∷ ps) τ

  -- a register starts in the two starting tables, at rest
  abbrev pub fresh : State
  fresh = record { upper = λ s t. K; lower = λ s t. start_entry Lower (judged_pair m s t) K; phase = resting }
