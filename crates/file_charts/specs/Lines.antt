-- A fault is written as its kind writes it.
use Rattle.std.specs.Prelude.{ℕ, List}
use Rattle.chain.specs.Lines as chain
use Rattle.transitions.specs.Lines as transitions
use Rattle.file_charts.specs.declared.fault.FileFault.{FileFault}
use Rattle.file_charts.specs.declared.fault.FileFault.TheVariants.{Weighted, Choice}

abbrev pub fault_line : FileFault → List ℕ
fault_line (Weighted fault) = chain.line fault
fault_line (Choice fault) = transitions.line fault
