-- Pairings: pairs of words u, v. A pairing for (s, t) pairs each successor of the one with some of the other.
use Rattle.std.specs.Prelude.{◌≡◌, ℕ, ◌+◌, ◌-◌, ◌*◌, ◌/◌, ◌%◌, ◌<◌, ◌≤◌, Bool, true, cond, not, ◌&&◌, ◌||◌, is_some, List, [], ◌∷◌, length, ℤ, Option, ◌==◌, nat_lt}
use borrow.Author.Differences.{up}
use Rattle.std.specs.Option.{option_map}
use Rattle.finite.specs.Sums.{greatest}
use Rattle.finite.specs.Search.{given, first_of, least}
use Rattle.chart.specs.Distances.{Distances}
use Rattle.chart.specs.Bands.{Judges, unjudged}
use Rattle.chart.specs.Words.{word}
use Rattle.transitions.specs.declared.fault.Fault.{Fault}
use Rattle.transitions.specs.declared.fault.Fault.TheVariants.{Unjudged, PairingCount, NoSuccessor, FirstUnpaired, SecondUnpaired}
use Rattle.transitions.specs.System.{System, successor}
use Rattle.transitions.specs.Words.{names}

-- the pair j, where its words are natural numbers
abbrev pub left : List ℤ → ℕ → ℕ
left ws j = up (word ws (2 * j))

abbrev pub right : List ℤ → ℕ → ℕ
right ws j = up (word ws (2 * j + 1))

abbrev pub pairs : List ℤ → ℕ
pairs ws = length ws / 2

-- M, the greatest entry of a pair
abbrev pub cost : Distances → List ℤ → ℕ
cost d ws = greatest (pairs ws) (λ j. d.entry (left ws j) (right ws j))

-- x is in some pair, on the side that is told
abbrev pub paired : (List ℤ → ℕ → ℕ) → List ℤ → ℕ → Bool
paired side ws x = is_some (least (pairs ws) (λ j. side ws j == x))

-- a valid pairing: it pairs successors, and each of them
pub record Pairing (c : System) (s t : ℕ) (ws : List ℤ) : Type 0 where
  pub judged : Judges c.n c.band s t
  pub twos : length ws % 2 ≡ 0
  pub few : length ws ≤ 2048
  pub left_names : (j : ℕ) → j < pairs ws → names c s (word ws (2 * j)) ≡ true
  pub right_names : (j : ℕ) → j < pairs ws → names c t (word ws (2 * j + 1)) ≡ true
  pub left_each : (u : ℕ) → successor c s u ≡ true → (j : ℕ) × (j < pairs ws) × (left ws j ≡ u)
  pub right_each : (v : ℕ) → successor c t v ≡ true → (j : ℕ) × (j < pairs ws) × (right ws j ≡ v)

-- it shows each claim that is at least the discounted greatest entry, (a / b) × M
abbrev pub PairingShows : System → Distances → List ℤ → ℕ → Type 0
PairingShows c d ws claim = c.a * cost d ws ≤ c.b * claim

-- the least such claim: the discounted greatest entry, rounded up
abbrev pub least_claim : System → ℕ → ℕ
least_claim c M = (c.a * M + (c.b - 1)) / c.b

-- a word that no pair may have at its place
abbrev pub bad_word : System → ℕ → ℕ → List ℤ → ℕ → Bool
bad_word c s t ws i = not (names c (cond (i % 2 == 0) s t) (word ws i))

-- the first check that fails, if one does
unfoldable pub pairing_fault : System → ℕ → ℕ → List ℤ → Option Fault
pairing_fault c s t ws = first_of (
    given (unjudged c.n c.band s t) Unjudged
    ∷ given (not (length ws % 2 == 0) || nat_lt 2048 (length ws)) (PairingCount (length ws))
    ∷ option_map NoSuccessor (least (length ws) (bad_word c s t ws))
    ∷ option_map FirstUnpaired (least c.n (λ u. successor c s u && not (paired left ws u)))
    ∷ option_map SecondUnpaired (least c.n (λ v. successor c t v && not (paired right ws v)))
    ∷ [])
