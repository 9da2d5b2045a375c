-- Each fault's numbers are those of its kind.
use Rattle.std.specs.Prelude.{ℕ, List}
use Rattle.chain.specs.Faults as chain
use Rattle.transitions.specs.Faults as transitions
use Rattle.file_charts.specs.declared.fault.FileFault.{FileFault}
use Rattle.file_charts.specs.declared.fault.FileFault.TheVariants.{Weighted, Choice}

abbrev pub fault_numbers : FileFault → List ℕ
fault_numbers (Weighted fault) = chain.fault_numbers fault
fault_numbers (Choice fault) = transitions.fault_numbers fault
