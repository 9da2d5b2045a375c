-- Words within bounds.
use Rattle.std.proofs.Common.{ℕ, ◌<◌, ◌≤◌, ℤ, pos, negsuc, ◌≤ℤ◌, arith}
use borrow.Author.Differences.{up, le_out}
use Rattle.chart.specs.Meaning.{Word}
use Rattle.chart.specs.Words.{Between}

-- the natural number of a word is within the word's bound
pub up_most : (high : ℕ) (z : ℤ) → z ≤ℤ pos high → up z ≤ high
up_most high (pos n) h = omega (arith, le_out (pos n) (pos high) h)
up_most high (negsuc n) h = omega arith

-- a number that is not below 0 and has an upper bound of 31 bits is a word
pub between_word : (low high : ℕ) (z : ℤ) → high < 2147483648 → Between (pos low) (pos high) z → Word z
between_word low high (pos n) small h = omega (arith, le_out (pos n) (pos high) h.1)
between_word low high (negsuc n) small h = absurd (omega (arith, le_out (pos low) (negsuc n) h.0))
