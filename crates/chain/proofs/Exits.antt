-- Which fault a showing has, check by check.
use Rattle.std.proofs.Common.{◌≡◌, ℕ, ◌*◌, ◌/◌, ◌%◌, ◌≤◌, Bool, true, false, not, ◌||◌, eqb, ltb, List, length, ℤ, pos, neg_ℤ, Some, None, Option, sym, ap}
use Rattle.std.specs.Option.{option_map}
use Rattle.std.proofs.lemmas.Bool.{eq-eqb, ne_eqb, le-ltb}
use Rattle.finite.specs.Search.{least}
use Rattle.chart.specs.Distances.{Distances}
use Rattle.chart.specs.Weighing.{answer}
use Rattle.chart.specs.Bands.{unjudged}
use Rattle.chart.specs.Words.{word, outside}
use Rattle.chain.specs.declared.fault.Fault.{Fault}
use Rattle.chain.specs.declared.fault.Fault.TheVariants.{Unjudged, PairingCount, PotentialsCount, Range, Above}
use Rattle.chain.specs.Chain.{Chain}
use Rattle.chain.specs.Pairing.{bad_word, word_fault, pairing_fault}
use Rattle.chain.specs.Potentials.{above, potentials_fault}

-- where there is a fault, it is the answer
pub faulty : (o : Option Fault) (f : Fault) (claim : ℕ) → o ≡ Some f → answer (Some f) claim ≡ answer o claim
faulty o f claim e = ap (λ o. answer o claim) (sym e)

module _ (c : Chain) (s t : ℕ) (ws : List ℤ) where
  pub pairing_unjudged : unjudged c.n c.band s t ≡ true → pairing_fault c s t ws ≡ Some Unjudged
  unfolding pairing_fault
  pairing_unjudged j = simp j

  pub pairing_count : unjudged c.n c.band s t ≡ false → (not (eqb (length ws % 3) 0) || ltb 3072 (length ws)) ≡ true → pairing_fault c s t ws ≡ Some (PairingCount (length ws))
  unfolding pairing_fault
  pairing_count j k = simp (j, k)

  module _ (j : unjudged c.n c.band s t ≡ false) (k : length ws % 3 ≡ 0) (few : length ws ≤ 3072) where
    pub pairing_word : (f : Fault) → option_map word_fault (least (length ws) (bad_word c ws)) ≡ Some f → pairing_fault c s t ws ≡ Some f
    unfolding pairing_fault
    pairing_word f w = simp (j, eq-eqb (length ws % 3) 0 k, le-ltb 3072 (length ws) few, w)

module _ (c : Chain) (d : Distances) (s t : ℕ) (ws : List ℤ) where
  -- the tests of the words, and of the pairs of successors
  abbrev pub wide : ℕ → Bool
  wide i = outside (neg_ℤ (pos d.top)) (pos d.top) (word ws i)

  abbrev pub over : ℕ → Bool
  over i = above c d s t ws (i / c.n) (i % c.n)

  pub potentials_unjudged : unjudged c.n c.band s t ≡ true → potentials_fault c d s t ws ≡ Some Unjudged
  unfolding potentials_fault
  potentials_unjudged j = simp j

  pub potentials_count : unjudged c.n c.band s t ≡ false → (length ws ≡ 2 * c.n → ⊥) → potentials_fault c d s t ws ≡ Some (PotentialsCount (length ws))
  unfolding potentials_fault
  potentials_count j k = simp (j, ne_eqb (length ws) (2 * c.n) k)

  module _ (j : unjudged c.n c.band s t ≡ false) (k : length ws ≡ 2 * c.n) where
    pub potentials_range : (i : ℕ) → least (length ws) wide ≡ Some i → potentials_fault c d s t ws ≡ Some (Range i)
    unfolding potentials_fault
    potentials_range i w = simp (j, eq-eqb (length ws) (2 * c.n) k, w)

    pub potentials_above : (i : ℕ) → least (length ws) wide ≡ None → least (c.n * c.n) over ≡ Some i → potentials_fault c d s t ws ≡ Some (Above i)
    unfolding potentials_fault
    potentials_above i w e = simp (j, eq-eqb (length ws) (2 * c.n) k, w, e)

    pub potentials_valid : least (length ws) wide ≡ None → least (c.n * c.n) over ≡ None → potentials_fault c d s t ws ≡ None
    unfolding potentials_fault
    potentials_valid w e = simp (j, eq-eqb (length ws) (2 * c.n) k, w, e)
