-- What holds of every register, over all histories.
use Rattle.std.specs.Prelude.{◌≡◌, ℕ, ◌*◌, ◌<◌, ◌≤◌, ◌⊎◌, ◌↔◌, List, [], ◌∷◌, map, Ok, Result}
use Rattle.chart.specs.declared.side.Side.{Side}
use Rattle.chart.specs.Distances.{Distances}
use Rattle.chart.specs.Laws.{Lawful}
use Rattle.chart.specs.Meaning.{Meaning, Judged}
use Rattle.chart.specs.Same.{Same}
use Rattle.chart.specs.Supported.{Supported}
use Rattle.chart.specs.Told.{Told, meaning_of, told_of}
use Rattle.chart.specs.Tops.{InRange}
use Rattle.history.specs.declared.verdict.Verdict.TheVariants.{Settled}
use Rattle.history.specs.declared.refusal.Refusal.{Refusal}
use Rattle.history.specs.Calls.{Call, Open, Enter, Abandon, Ask, Answer, entries, Page}
use Rattle.history.specs.Rules.{State, resting, over, Step, Run, fresh}
use Rattle.history.specs.Bounding.{Bounding}
use Rattle.history.specs.Certificate.{Certificate, Sent}

-- in every state that a history leads to from a fresh register, over any top
abbrev pub Always : {F : Type 0} → Meaning F → (ℕ → State → List (Page F) → Type 0) → Type 0
Always {F} m P = (K : ℕ) → InRange K → (σ : State) (h : List (Page F)) → Run m K (fresh m K) h σ → P K σ h

-- some history leads a register of the chart over the top to the state
abbrev pub HasHistory : {F : Type 0} → Meaning F → ℕ → State → Type 0
HasHistory {F} m K σ = ∥ ((h : List (Page F)) × Run m K (fresh m K) h σ) ∥₁

-- no entry of l stands for a greater distance than that of e
abbrev pub Below : ℕ → Distances → Distances → Type 0
Below n l e = (s t : ℕ) → s < n → t < n → l.entry s t * e.top ≤ e.entry s t * l.top

-- ---- one call

-- the call has an outcome and a state after it, and no other
abbrev pub OneOutcome : {F : Type 0} → Meaning F → ℕ → State → Call → Type 0
OneOutcome {F} m K σ c =
    (o : Result Answer (Refusal F)) × (τ : State) × Step m K σ c o τ × ((o' : Result Answer (Refusal F)) (τ' : State) → Step m K σ c o' τ' → (o ≡ o') × (τ ≡ τ'))

abbrev pub EachCallHasOneOutcome : {F : Type 0} → Meaning F → ℕ → Type 0
EachCallHasOneOutcome m K = (σ : State) (c : Call) → OneOutcome m K σ c

-- ---- settled entries

-- what is settled in σ over K and in τ over J is the same distance
abbrev pub Agree : {F : Type 0} → Meaning F → ℕ → State → ℕ → State → Type 0
Agree m K σ J τ = (s t : ℕ) → Judged m s t → σ.lower s t ≡ σ.upper s t → τ.lower s t ≡ τ.upper s t → σ.upper s t * J ≡ τ.upper s t * K

-- what is settled in two registers of the same chart is the same distance, whatever the tops and the histories
abbrev pub SettledAgree : {F G : Type 0} → Meaning F → Meaning G → Type 0
SettledAgree m o = Same m o → Always m (λ K σ h. Always o (λ J τ g. Agree m K σ J τ))

-- ---- full certificates

abbrev pub calls : {F : Type 0} → List (Page F) → List Call
calls h = map (λ p. p.call) h

-- whatever history of the same calls a register of the chart and the top has, its answers, its refusals and the state after it are these
abbrev pub ByCallsAlone : {F : Type 0} → Meaning F → ℕ → State → List (Page F) → Type 0
ByCallsAlone {F} m K σ h = (g : List (Page F)) (τ : State) → Run m K (fresh m K) g τ → calls g ≡ calls h → (g ≡ h) × (τ ≡ σ)

-- the call of the page was accepted
abbrev pub Accepted : {F : Type 0} → Page F → Type 0
Accepted p = (a : Answer) × (p.outcome ≡ Ok a)

abbrev pub EachAccepted : {F : Type 0} → List (Page F) → Type 0
EachAccepted [] = Unit {0}
EachAccepted (p ∷ h) = Accepted p × EachAccepted h

module _ {F : Type 0} (m : Meaning F) (K : ℕ) where
  -- at every judged pair, ask answers the certificate's entry twice, and Settled
  abbrev pub Settles : Certificate m K → State → Type 0
  Settles cert τ = (s t : ℕ) → Judged m s t → (o : Result Answer (Refusal F)) (ρ : State) → Step m K τ (Ask s t) o ρ → o ≡ Ok (entries (cert.entry s t) (cert.entry s t) Settled)

  -- the calls can be made, and however they are, each is accepted, and the certificate is settled after them
  pub record Enters (cert : Certificate m K) (σ : State) (cs : List Call) : Type 0 where
    pub pages : List (Page F)
    pub end : State
    pub run : Run m K σ pages end
    pub sends : calls pages ≡ cs
    pub settles : (h : List (Page F)) (τ : State) → Run m K σ h τ → calls h ≡ cs → EachAccepted h × Settles cert τ

  -- at rest, every full certificate can be sent, and is settled then
  abbrev pub TakesCertificates : State → Type 0
  TakesCertificates σ = σ.phase ≡ resting → (cert : Certificate m K) (cs : List Call) → Sent m K cert cs → Enters cert σ cs

-- ---- rest

-- an accepted open
pub record Opens {F : Type 0} (p : Page F) : Type 0 where
  pub side : Side
  pub is_open : p.call ≡ Open side
  pub accepted : Accepted p

-- an accepted enter or abandon
pub record Ends {F : Type 0} (p : Page F) : Type 0 where
  pub is_end : (p.call ≡ Enter) ⊎ (p.call ≡ Abandon)
  pub accepted : Accepted p

abbrev pub SomeEnds : {F : Type 0} → List (Page F) → Type 0
SomeEnds [] = ⊥
SomeEnds (p ∷ h) = Ends p ⊎ SomeEnds h

-- each accepted open has a later accepted enter or abandon
abbrev pub EachEnded : {F : Type 0} → List (Page F) → Type 0
EachEnded [] = Unit {0}
EachEnded (p ∷ h) = (Opens p → SomeEnds h) × EachEnded h

-- ---- one register

-- What a register of the chart m over the top K promises of the state σ that the history h led to.
pub record Promise {F : Type 0} (m : Meaning F) (K : ℕ) (σ : State) (h : List (Page F)) : Type 0 where
  -- chart, top and calls alone fix the tables, the answers and the refusals
  pub alone : ByCallsAlone m K σ h
  -- no false distance is in the tables: the upper one is supported, and no lower entry is above that of a supported table,
  -- or of any table that bounds what potentials show
  pub upper : Supported m (over K σ.upper)
  pub lower : (e : Distances) → Supported m e → Below m.sections (over K σ.lower) e
  pub bounded : (e : Distances) → Bounding m e → Below m.sections (over K σ.lower) e
  -- no true one is kept out
  pub certificates : TakesCertificates m K σ
  pub rests : (σ.phase ≡ resting) ↔ EachEnded h

-- A register of the chart m over the top K, in the state σ, keeps its promise.
pub record KeepsPromise {F : Type 0} (m : Meaning F) (K : ℕ) (σ : State) : Type 0 where
  -- a history of calls led to the state, and whatever history did
  pub history : HasHistory m K σ
  pub promise : (h : List (Page F)) → Run m K (fresh m K) h σ → Promise m K σ h
  -- in every state each call has one outcome
  pub outcomes : EachCallHasOneOutcome m K
  -- What is settled here and in a register of the same chart, though it be a value of another kind, is the same distance,
  -- whatever its top and its history: other is that chart as its register sees it. As a register sees its own chart,
  -- it is lawful and the same chart, and has a history that led to this state; so this holds of every register of the other kind, too.
  pub agrees : (other : Told) → Lawful (meaning_of other) → Same m (meaning_of other) → Always (meaning_of other) (λ J τ g. Agree m K σ J τ)
  pub told_lawful : Lawful (meaning_of (told_of m))
  pub told_same : Same m (meaning_of (told_of m))
  pub told_history : HasHistory (meaning_of (told_of m)) K σ
