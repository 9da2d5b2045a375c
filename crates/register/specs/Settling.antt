-- Settled entries.
use Rattle.std.specs.Prelude.{ℕ, ◌&&◌, Option, ◌==◌}
use Rattle.finite.specs.Search.{given}
use Rattle.chart.specs.Meaning.{Meaning}
use Rattle.chart.specs.Starting.{judged_pair}
use Rattle.history.specs.Rules.{State}

-- the two entries of a judged pair, where they are equal
abbrev pub settled_entry : {F : Type 0} → Meaning F → State → ℕ → ℕ → Option ℕ
settled_entry m σ s t = given (judged_pair m s t && σ.lower s t == σ.upper s t) (σ.upper s t)
