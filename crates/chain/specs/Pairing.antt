-- Pairings: triples u, v, amount. A pairing for (s, t) is a coupling of the two rows, in whole amounts.
use Rattle.std.specs.Prelude.{◌≡◌, ℕ, ◌+◌, ◌-◌, ◌*◌, ◌/◌, ◌%◌, ◌<◌, ◌≤◌, Bool, cond, not, ◌||◌, List, [], ◌∷◌, length, ℤ, pos, Option, ◌==◌, nat_lt}
use borrow.Author.Differences.{up}
use Rattle.std.specs.Option.{option_map}
use Rattle.finite.specs.Sums.{sum}
use Rattle.finite.specs.Search.{given, first_of, least}
use Rattle.chart.specs.Distances.{Distances}
use Rattle.chart.specs.Bands.{Judges, unjudged}
use Rattle.chart.specs.Words.{word, Between, outside}
use Rattle.chain.specs.declared.fault.Fault.{Fault}
use Rattle.chain.specs.declared.fault.Fault.TheVariants.{Unjudged, PairingCount, Section, Amount, FirstMargin, SecondMargin}
use Rattle.chain.specs.Chain.{Chain}

-- the triple j, where its words are natural numbers
abbrev pub left : List ℤ → ℕ → ℕ
left ws j = up (word ws (3 * j))

abbrev pub right : List ℤ → ℕ → ℕ
right ws j = up (word ws (3 * j + 1))

abbrev pub amount : List ℤ → ℕ → ℕ
amount ws j = up (word ws (3 * j + 2))

abbrev pub triples : List ℤ → ℕ
triples ws = length ws / 3

-- the amounts of the triples that have x on a side, added up
abbrev pub margin : (List ℤ → ℕ → ℕ) → List ℤ → ℕ → ℕ
margin side ws x = sum (triples ws) (λ j. cond (side ws j == x) (amount ws j) 0)

-- S, the sum of all amount × entry (u, v)
abbrev pub cost : Distances → List ℤ → ℕ
cost d ws = sum (triples ws) (λ j. amount ws j * d.entry (left ws j) (right ws j))

-- a valid pairing: its margins are the two rows
pub record Pairing (c : Chain) (s t : ℕ) (ws : List ℤ) : Type 0 where
  pub judged : Judges c.n c.band s t
  pub threes : length ws % 3 ≡ 0
  pub few : length ws ≤ 3072
  pub left_word : (j : ℕ) → j < triples ws → Between (pos 0) (pos (c.n - 1)) (word ws (3 * j))
  pub right_word : (j : ℕ) → j < triples ws → Between (pos 0) (pos (c.n - 1)) (word ws (3 * j + 1))
  pub amount_word : (j : ℕ) → j < triples ws → Between (pos 1) (pos c.whole) (word ws (3 * j + 2))
  pub left_margin : (u : ℕ) → u < c.n → margin left ws u ≡ c.part s u
  pub right_margin : (v : ℕ) → v < c.n → margin right ws v ≡ c.part t v

-- it shows each claim that is at least its discounted mean, (a / b) × S / P
abbrev pub PairingShows : Chain → Distances → List ℤ → ℕ → Type 0
PairingShows c d ws claim = c.a * cost d ws ≤ c.b * c.whole * claim

-- the least such claim: the mean, rounded up
abbrev pub least_claim : Chain → ℕ → ℕ
least_claim c S = (c.a * S + (c.b * c.whole - 1)) / (c.b * c.whole)

-- a word that no triple may have at its place
abbrev pub bad_word : Chain → List ℤ → ℕ → Bool
bad_word c ws i = cond (nat_lt (i % 3) 2) (outside (pos 0) (pos (c.n - 1)) (word ws i)) (outside (pos 1) (pos c.whole) (word ws i))

abbrev pub word_fault : ℕ → Fault
word_fault i = cond (nat_lt (i % 3) 2) (Section i) (Amount i)

-- the first check that fails, if one does
unfoldable pub pairing_fault : Chain → ℕ → ℕ → List ℤ → Option Fault
pairing_fault c s t ws = first_of (
    given (unjudged c.n c.band s t) Unjudged
    ∷ given (not (length ws % 3 == 0) || nat_lt 3072 (length ws)) (PairingCount (length ws))
    ∷ option_map word_fault (least (length ws) (bad_word c ws))
    ∷ option_map FirstMargin (least c.n (λ u. not (margin left ws u == c.part s u)))
    ∷ option_map SecondMargin (least c.n (λ v. not (margin right ws v == c.part t v)))
    ∷ [])
