-- Full certificates, and how one is sent.
use Rattle.std.specs.Prelude.{◌≡◌, ℕ, ◌<◌, ◌≤◌, Bool, true, false, ◌&&◌, ◌||◌, List, [], ◌∷◌, ◌++◌, map, ℤ, ◌==◌}
use Rattle.std.specs.List.{AllByRecursion}
use Rattle.chart.specs.declared.side.Side.{Side}
use Rattle.chart.specs.declared.side.Side.TheVariants.{Upper, Lower}
use Rattle.chart.specs.Meaning.{Meaning, Judged, Shown, Word}
use Rattle.history.specs.Calls.{Call, Open, Claim, Close, Show, Enter}
use Rattle.history.specs.Rules.{over}

-- A table with apart pairs at the top, a pairing that shows each judged entry, and potentials that show each judged entry above 0.
-- Each showing has signed 32-bit words.
pub record Certificate {F : Type 0} (m : Meaning F) (K : ℕ) : Type 0 where
  pub entry : ℕ → ℕ → ℕ
  pub pairing : ℕ → ℕ → List ℤ
  pub potentials : ℕ → ℕ → List ℤ
  pub bounded : (s t : ℕ) → s < m.sections → t < m.sections → entry s t ≤ K
  pub apart : (s t : ℕ) → s < m.sections → t < m.sections → m.apart s t ≡ true → entry s t ≡ K
  pub paired : (s t : ℕ) → Judged m s t → AllByRecursion Word (pairing s t) × Shown m Upper (over K entry) s t (pairing s t) (entry s t)
  pub backed : (s t : ℕ) → Judged m s t → 0 < entry s t → AllByRecursion Word (potentials s t) × Shown m Lower (over K entry) s t (potentials s t) (entry s t)

abbrev pub Pair : Type 0
Pair = ℕ × ℕ

abbrev pub among : ℕ → ℕ → List Pair → Bool
among s t [] = false
among s t (p ∷ ps) = (s == p.0 && t == p.1) || among s t ps

abbrev pub Distinct : List Pair → Type 0
Distinct [] = Unit {0}
Distinct (p ∷ ps) = (among p.0 p.1 ps ≡ false) × Distinct ps

-- the pairs with P, each once and in any order
pub record Lists (P : ℕ → ℕ → Type 0) (ps : List Pair) : Type 0 where
  pub distinct : Distinct ps
  pub only : (s t : ℕ) → among s t ps ≡ true → P s t
  pub every : (s t : ℕ) → P s t → among s t ps ≡ true

abbrev pub claim_of : (ℕ → ℕ → ℕ) → Pair → Call
claim_of value p = Claim p.0 p.1 (value p.0 p.1)

abbrev pub show_of : (ℕ → ℕ → List ℤ) → Pair → Call
show_of words p = Show p.0 p.1 (words p.0 p.1)

-- one draft: the claims of the pairs ps in that order, and their showings in the order qs
abbrev pub draft_calls : Side → (ℕ → ℕ → ℕ) → (ℕ → ℕ → List ℤ) → List Pair → List Pair → List Call
draft_calls side value words ps qs = Open side ∷ (map (claim_of value) ps ++ (Close ∷ (map (show_of words) qs ++ (Enter ∷ []))))

module _ {F : Type 0} (m : Meaning F) (K : ℕ) (cert : Certificate m K) where
  -- a judged pair with an entry above 0
  pub record Positive (s t : ℕ) : Type 0 where
    pub judged : Judged m s t
    pub above : 0 < cert.entry s t

  -- the calls that send the certificate: an upper draft of all judged pairs, and then, unless all of their entries are 0, a lower draft of those with entries above 0
  pub data Sent : List Call → Type 0 where
    all_0 : (ps qs : List Pair) → Lists (Judged m) ps → Lists (Judged m) qs → ((s t : ℕ) → Judged m s t → cert.entry s t ≡ 0)
        → Sent (draft_calls Upper cert.entry cert.pairing ps qs)
    some_above : (ps qs us vs : List Pair) (s t : ℕ) → Lists (Judged m) ps → Lists (Judged m) qs → Lists Positive us → Lists Positive vs → Positive s t
        → Sent (draft_calls Upper cert.entry cert.pairing ps qs ++ draft_calls Lower cert.entry cert.potentials us vs)
