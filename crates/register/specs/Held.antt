-- The state that a register is in, its chart and its top.
use Rattle.std.specs.Prelude.{ℕ}
use Rattle.chart.specs.declared.kind.Chart.{Ghosts}
use Rattle.history.specs.Rules.{State}
use Rattle.register.specs.declared.phase.Phase.{Phase}
use Rattle.register.specs.declared.register.Register.{Register}
use Rattle.register.specs.declared.tables.Tables.{Tables}
use Rattle.register.specs.Contents.{held_in, top_within}

abbrev pub held : {C F : Type 0} {G : Ghosts C F} → Register C F G → State
held r = held_in r.contents

abbrev pub top_of : {C F : Type 0} {G : Ghosts C F} → Register C F G → ℕ
top_of r = top_within r.contents

abbrev pub chart_of : {C F : Type 0} {G : Ghosts C F} → Register C F G → C
chart_of r = r.contents.chart

-- all that it holds
abbrev pub parts_of : {C F : Type 0} {G : Ghosts C F} → Register C F G → C × Tables × Phase
parts_of r = (r.contents.chart, r.contents.tables, r.contents.phase)
