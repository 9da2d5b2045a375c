use Rattle.file_charts.specs.declared.charts.FileChart.TheVariants.{Weighted, Choice}
use Rattle.file_charts.proofs.Registers.{registers_bound, settled_is_distance, entries_bound_distance}
use Rattle.file_charts.proofs.charts.FileChart.read.Goals as goal

pub returns-in_ok-read-in-Some-Choice-clause-bounds : goal.returns-in_ok-read-in-Some-Choice-clause-bounds
returns-in_ok-read-in-Some-Choice-clause-bounds c = registers_bound (Choice c.read.new.self)

pub returns-in_ok-read-in-Some-Choice-clause-settled : goal.returns-in_ok-read-in-Some-Choice-clause-settled
returns-in_ok-read-in-Some-Choice-clause-settled c = settled_is_distance (Choice c.read.new.self)

pub returns-in_ok-read-in-Some-Choice-clause-between : goal.returns-in_ok-read-in-Some-Choice-clause-between
returns-in_ok-read-in-Some-Choice-clause-between c = entries_bound_distance (Choice c.read.new.self)

pub returns-in_ok-read-in-Some-Weighted-clause-bounds : goal.returns-in_ok-read-in-Some-Weighted-clause-bounds
returns-in_ok-read-in-Some-Weighted-clause-bounds c = registers_bound (Weighted c.read-in-Some-Weighted.new.self)

pub returns-in_ok-read-in-Some-Weighted-clause-settled : goal.returns-in_ok-read-in-Some-Weighted-clause-settled
returns-in_ok-read-in-Some-Weighted-clause-settled c = settled_is_distance (Weighted c.read-in-Some-Weighted.new.self)

pub returns-in_ok-read-in-Some-Weighted-clause-between : goal.returns-in_ok-read-in-Some-Weighted-clause-between
returns-in_ok-read-in-Some-Weighted-clause-between c = entries_bound_distance (Weighted c.read-in-Some-Weighted.new.self)
