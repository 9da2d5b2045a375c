-- The chart of a file keeps the laws, as a chart of its kind does.
use Rattle.std.proofs.Common.{refl}
use Rattle.chart.specs.Laws.{Lawful}
use Rattle.chart.proofs.Carrying.{carried_lawful}
use Rattle.chain.specs.Meaning as chain
use Rattle.chain.proofs.Laws as chain_laws
use Rattle.transitions.specs.Meaning as transitions
use Rattle.transitions.proofs.Laws as transitions_laws
use Rattle.weighted.specs.View.{chain as chain_of}
use Rattle.weighted.specs.Soundness.{sound as chain_sound}
use Rattle.choice.specs.View.{system as system_of}
use Rattle.choice.specs.Soundness.{sound as system_sound}
use Rattle.file_charts.specs.declared.fault.FileFault.TheVariants as fault
use Rattle.file_charts.specs.declared.charts.FileChart.{FileChart}
use Rattle.file_charts.specs.declared.charts.FileChart.TheVariants.{Weighted, Choice}
use Rattle.file_charts.specs.Faults.{fault_numbers}
use Rattle.file_charts.specs.Meaning.{means}

pub sound : (c : FileChart) → Lawful (means c)
sound (Weighted w) = carried_lawful fault.Weighted fault_numbers (chain.means (chain_of w)) (λ f. refl) (chain_laws.lawful (chain_of w) (chain_sound w))
sound (Choice c) = carried_lawful fault.Choice fault_numbers (transitions.means (system_of c)) (λ f. refl) (transitions_laws.lawful (system_of c) (system_sound c))
