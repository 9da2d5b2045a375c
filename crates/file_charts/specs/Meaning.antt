-- The chart of a file means what it means as a chart of its kind.
use Rattle.chart.specs.Carried.{carried}
use Rattle.chart.specs.Meaning.{Meaning}
use Rattle.chain.specs.Meaning as chain
use Rattle.transitions.specs.Meaning as transitions
use Rattle.weighted.specs.View.{chain as chain_of}
use Rattle.choice.specs.View.{system as system_of}
use Rattle.file_charts.specs.declared.fault.FileFault.{FileFault}
use Rattle.file_charts.specs.declared.fault.FileFault.TheVariants as fault
use Rattle.file_charts.specs.declared.charts.FileChart.{FileChart}
use Rattle.file_charts.specs.declared.charts.FileChart.TheVariants.{Weighted, Choice}
use Rattle.file_charts.specs.Faults.{fault_numbers}

abbrev pub means : FileChart → Meaning FileFault
means (Weighted w) = carried fault.Weighted fault_numbers (chain.means (chain_of w))
means (Choice c) = carried fault.Choice fault_numbers (transitions.means (system_of c))
