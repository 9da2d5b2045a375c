-- Couplings of two rows of the Markov chain, and the discounted Kantorovich operator on tables of distances, with no real numbers.
use Rattle.std.specs.Prelude.{◌≡◌, ℕ, ◌+◌, ◌*◌, ◌<◌, ◌≤◌, true, List, ℤ}
use Rattle.finite.specs.Sums.{sum}
use Rattle.chart.specs.declared.side.Side.TheVariants.{Lower}
use Rattle.chart.specs.Distances.{Distances}
use Rattle.chart.specs.Laws.{Within}
use Rattle.chart.specs.Meaning.{Shown}
use Rattle.chart.specs.Supported.{Supported}
use Rattle.chart.specs.Bands.{Judges, parted}
use Rattle.chain.specs.Chain.{Chain}
use Rattle.chain.specs.Pairing.{cost, Pairing}
use Rattle.chain.specs.Meaning.{means}

-- A coupling of the rows of s and t: a matrix of whole amounts whose margins are Q times the rows, for some Q from 1.
-- Divided by Q × P it is a probability distribution on pairs, and every one in rational numbers with these margins is of that form.
pub record Coupling (c : Chain) (s t : ℕ) : Type 0 where
  pub times : ℕ  -- Q
  pub amounts : ℕ → ℕ → ℕ
  pub times_least : 1 ≤ times
  pub first_margin : (u : ℕ) → u < c.n → sum c.n (λ v. amounts u v) ≡ times * c.part s u
  pub second_margin : (v : ℕ) → v < c.n → sum c.n (λ u. amounts u v) ≡ times * c.part t v

module _ (c : Chain) {s t : ℕ} (k : Coupling c s t) (d : Distances) where
  -- the sum of all amount × entry; the mean entry is this over Q × P
  abbrev pub total : ℕ
  total = sum c.n (λ u. sum c.n (λ v. k.amounts u v * d.entry u v))

  -- the discounted mean entry is at most the claim
  abbrev pub MeanAtMost : ℕ → Type 0
  MeanAtMost claim = c.a * total ≤ c.b * (k.times * c.whole) * claim

-- The operator takes a table to 1 at apart pairs, and at a judged pair to the least discounted mean over all couplings.
-- It nowhere raises the table: apart pairs stand at the top, and at each judged pair some coupling's discounted mean is at most the entry.
pub record NowhereRaised (c : Chain) (d : Distances) : Type 0 where
  pub apart : (s t : ℕ) → s < c.n → t < c.n → parted c.band s t ≡ true → d.entry s t ≡ d.top
  pub judged : (s t : ℕ) → Judges c.n c.band s t → (k : Coupling c s t) × MeanAtMost c k d (d.entry s t)

-- a supported table is nowhere raised
abbrev pub SupportedIsNowhereRaised : Chain → Type 0
SupportedIsNowhereRaised c = (d : Distances) → Supported (means c) d → NowhereRaised c d

-- every coupling in whole amounts is listed by a pairing, with the same total in every table
abbrev pub WholeCouplingsArePairings : Chain → Type 0
WholeCouplingsArePairings c =
    (s t : ℕ) (k : Coupling c s t) → Judges c.n c.band s t → k.times ≡ 1
    → (ws : List ℤ) × Pairing c s t ws × ((d : Distances) → cost d ws ≡ total c k d)

-- what potentials show is bounded by every coupling, whatever the two tops
abbrev pub CouplingsBoundPotentials : Chain → Type 0
CouplingsBoundPotentials c =
    (l e : Distances) (s t : ℕ) (potentials : List ℤ) (x y k : ℕ) (w : Coupling c s t)
    → Shown (means c) Lower l s t potentials x → MeanAtMost c w e y → Within c.n l e k
    → c.b * (x * e.top) ≤ c.b * (y * l.top) + c.a * k
