-- Which numbers are tops, and the number of the refusal.
use Rattle.std.specs.Prelude.{ℕ, ◌≤◌, List, [], ◌∷◌}
use Rattle.chart.specs.declared.top.TopRefusal.{TopRefusal}
use Rattle.chart.specs.declared.top.TopRefusal.TheVariants.{OutOfRange}

abbrev pub InRange : ℕ → Type 0
InRange k = (1 ≤ k) × (k ≤ 1000000000)

abbrev pub refusal_numbers : TopRefusal → List ℕ
refusal_numbers OutOfRange = 11 ∷ []
