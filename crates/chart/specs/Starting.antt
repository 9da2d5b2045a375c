-- The tables in which a register starts: every upper entry is the top; a lower entry is 0 for a judged pair, else the top.
use Rattle.std.specs.Prelude.{ℕ, Bool, cond, not, ◌&&◌, nat_lt}
use Rattle.chart.specs.declared.side.Side.{Side}
use Rattle.chart.specs.declared.side.Side.TheVariants.{Upper, Lower}
use Rattle.chart.specs.Distances.{Distances}
use Rattle.chart.specs.Meaning.{Meaning}

abbrev pub judged_pair : {F : Type 0} → Meaning F → ℕ → ℕ → Bool
judged_pair m s t = nat_lt s m.sections && (nat_lt t m.sections && not (m.apart s t))

abbrev pub start_entry : Side → Bool → ℕ → ℕ
start_entry Upper judged top = top
start_entry Lower judged top = cond judged 0 top

abbrev pub start_table : {F : Type 0} → Meaning F → Side → ℕ → Distances
start_table m side top = record { top = top; entry = λ s t. start_entry side (judged_pair m s t) top }
