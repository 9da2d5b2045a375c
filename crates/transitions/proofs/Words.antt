-- What a word that names a successor is.
use Rattle.std.proofs.Common.{◌≡◌, ℕ, ◌<◌, true, ℤ, pos, negsuc, arith}
use borrow.Author.Differences.{up}
use Rattle.std.proofs.lemmas.Bool.{and_parts, ltb-true}
use Rattle.chart.specs.Meaning.{Word}
use Rattle.transitions.specs.System.{System, Sound, successor}
use Rattle.transitions.specs.Words.{names}

module _ (c : System) (s : ℕ) where
  pub successor_in : (u : ℕ) → successor c s u ≡ true → u < c.n
  successor_in u h = ltb-true u c.n (and_parts _ _ h).0

  module _ (z : ℤ) (h : names c s z ≡ true) where
    pub named : successor c s (up z) ≡ true
    named = by z h where
      by : (z : ℤ) → names c s z ≡ true → successor c s (up z) ≡ true
      by (pos u) h = h
      by (negsuc u) h = absurd (cc h)

    pub named_word : Sound c → Word z
    named_word sound = by z h where
      by : (z : ℤ) → names c s z ≡ true → Word z
      by (pos u) h = omega (arith, successor_in u h, sound.n_most)
      by (negsuc u) h = absurd (cc h)
