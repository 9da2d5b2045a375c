-- How what a refusal carries is written.
use Rattle.std.proofs.Common.{◌≡◌, ℕ, List, [], ◌∷◌, ◌++◌, rules}
use Rattle.std.proofs.lemmas.List.{append_assoc}
use Rattle.std.specs.Prelude.{codes, decimal}
use Rattle.history.specs.Lines.{after_blanks}

pub two_carried : (s t : ℕ) (rest : List ℕ) → after_blanks (s ∷ t ∷ []) ++ rest ≡ codes " " ++ (decimal s ++ (codes " " ++ (decimal t ++ rest)))
two_carried s t rest = search (rules, append_assoc)
