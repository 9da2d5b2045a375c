-- Potentials: n words α, then n words β. They are Kantorovich potentials of the two rows.
use Rattle.std.specs.Prelude.{◌≡◌, ℕ, ◌+◌, ◌*◌, ◌/◌, ◌%◌, ◌<◌, Bool, not, ◌&&◌, ◌⊎◌, List, [], ◌∷◌, length, ℤ, pos, ◌+ℤ◌, ◌*ℤ◌, neg_ℤ, ◌≤ℤ◌, Option, ◌==◌, int_lt, nat_lt}
use borrow.Author.Differences.{up}
use Rattle.std.specs.Option.{option_map}
use Rattle.finite.specs.Sums.{sumℤ}
use Rattle.finite.specs.Search.{given, first_of, least}
use Rattle.chart.specs.Distances.{Distances}
use Rattle.chart.specs.Bands.{Judges, unjudged}
use Rattle.chart.specs.Words.{word, Between, outside}
use Rattle.chain.specs.declared.fault.Fault.{Fault}
use Rattle.chain.specs.declared.fault.Fault.TheVariants.{Unjudged, PotentialsCount, Range, Above}
use Rattle.chain.specs.Chain.{Chain}

-- α(u) and β(v)
abbrev pub alpha : List ℤ → ℕ → ℤ
alpha ws u = word ws u

abbrev pub beta : Chain → List ℤ → ℕ → ℤ
beta c ws v = word ws (c.n + v)

-- S, the sum of all p(s, u) × α(u) and p(t, v) × β(v)
abbrev pub gain : Chain → ℕ → ℕ → List ℤ → ℤ
gain c s t ws = sumℤ c.n (λ u. pos (c.part s u) *ℤ alpha ws u) +ℤ sumℤ c.n (λ v. pos (c.part t v) *ℤ beta c ws v)

-- valid potentials: they stay under the table at every pair of successors
pub record Potentials (c : Chain) (d : Distances) (s t : ℕ) (ws : List ℤ) : Type 0 where
  pub judged : Judges c.n c.band s t
  pub count : length ws ≡ 2 * c.n
  pub range : (i : ℕ) → i < 2 * c.n → Between (neg_ℤ (pos d.top)) (pos d.top) (word ws i)
  pub under : (u v : ℕ) → u < c.n → v < c.n → 0 < c.part s u → 0 < c.part t v → (alpha ws u +ℤ beta c ws v) ≤ℤ pos (d.entry u v)

-- they show 0, and each claim that is at most their discounted sum, (a / b) × S / P
abbrev pub PotentialsShow : Chain → ℕ → ℕ → List ℤ → ℕ → Type 0
PotentialsShow c s t ws claim = (claim ≡ 0) ⊎ (pos (c.b * c.whole * claim) ≤ℤ (pos c.a *ℤ gain c s t ws))

-- the greatest such claim: the sum, rounded down, or 0 where it is negative
abbrev pub greatest_claim : Chain → ℤ → ℕ
greatest_claim c S = c.a * up S / (c.b * c.whole)

-- α(u) + β(v) is above the entry of (u, v), for a successor u of s and v of t
abbrev pub above : Chain → Distances → ℕ → ℕ → List ℤ → ℕ → ℕ → Bool
above c d s t ws u v = nat_lt 0 (c.part s u) && (nat_lt 0 (c.part t v) && int_lt (pos (d.entry u v)) (alpha ws u +ℤ beta c ws v))

-- the first check that fails, if one does; the pair (u, v) has the place u × n + v
unfoldable pub potentials_fault : Chain → Distances → ℕ → ℕ → List ℤ → Option Fault
potentials_fault c d s t ws = first_of (
    given (unjudged c.n c.band s t) Unjudged
    ∷ given (not (length ws == 2 * c.n)) (PotentialsCount (length ws))
    ∷ option_map Range (least (length ws) (λ i. outside (neg_ℤ (pos d.top)) (pos d.top) (word ws i)))
    ∷ option_map Above (least (c.n * c.n) (λ i. above c d s t ws (i / c.n) (i % c.n)))
    ∷ [])
