-- The state that a register's contents stand for, as the rules speak of it, and their top.
use Rattle.std.specs.Prelude.{ℕ}
use Rattle.chart.specs.declared.kind.Chart.{Ghosts}
use Rattle.history.specs.Rules.{State}
use Rattle.register.specs.declared.contents.Contents.{Contents}
use Rattle.register.specs.Tables.{top_in, state}
use Rattle.register.specs.Phases.{phase_of}

abbrev pub held_in : {C F : Type 0} {G : Ghosts C F} → Contents C F G → State
held_in c = state c.tables (phase_of c.phase)

abbrev pub top_within : {C F : Type 0} {G : Ghosts C F} → Contents C F G → ℕ
top_within c = top_in c.tables
