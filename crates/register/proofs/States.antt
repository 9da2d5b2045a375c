-- States that have the same entries and the same phase.
use Rattle.std.proofs.Common.{◌≡◌, ℕ}
use Rattle.history.specs.Rules.{State, Phase}

abbrev pub entries_and : Phase → (ℕ → ℕ → ℕ) → (ℕ → ℕ → ℕ) → State
entries_and p u l = record { upper = u; lower = l; phase = p }

pub same_entries : (p : Phase) (u u' l l' : ℕ → ℕ → ℕ) → u ≡ u' → l ≡ l' → entries_and p u l ≡ entries_and p u' l'
same_entries p u u' l l' e f = rw (e, f)
