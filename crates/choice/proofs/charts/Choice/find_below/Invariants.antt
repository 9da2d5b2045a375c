use Rattle.std.proofs.Common.{ltb}
use Rattle.std.specs.List.{slice_index}
use Rattle.chart.specs.Tables.{distances}
use Rattle.transitions.specs.Potentials.{facing}
use Rattle.choice.specs.Sides.{number}
use Rattle.choice.proofs.Marks.{Left}
use Rattle.choice.proofs.charts.Choice.find_below.Given as goal

-- no successor that is looked at has an entry below the floor
abbrev pub invariant-loop-rest : goal.invariant-loop-rest
invariant-loop-rest l = let p = l.potentials in Left (slice_index l.self.masks l.other) (λ y. ltb (facing (distances l.d) (number p.side) p.section y) p.floor) l.rest

abbrev pub decreases-loop-rest : goal.decreases-loop-rest
decreases-loop-rest l = l.rest
