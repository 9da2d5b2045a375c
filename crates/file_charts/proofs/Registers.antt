-- Every register over the chart of a file bounds the distance, as every register over a chart of its kind does.
use Rattle.history.proofs.Tellings.{always_carried}
use Rattle.chain.specs.Meaning as chain
use Rattle.chain.proofs.Registers as chain_proofs
use Rattle.transitions.specs.Meaning as transitions
use Rattle.transitions.proofs.Registers as transitions_proofs
use Rattle.weighted.specs.View.{chain as chain_of}
use Rattle.weighted.specs.Soundness.{sound as chain_sound}
use Rattle.choice.specs.View.{system as system_of}
use Rattle.choice.specs.Soundness.{sound as system_sound}
use Rattle.file_charts.specs.declared.fault.FileFault.TheVariants as fault
use Rattle.file_charts.specs.declared.charts.FileChart.{FileChart}
use Rattle.file_charts.specs.declared.charts.FileChart.TheVariants.{Weighted, Choice}
use Rattle.file_charts.specs.Faults.{fault_numbers}
use Rattle.file_charts.specs.Registers.{RegistersBound, SettledIsDistance, EntriesBoundDistance}

pub registers_bound : (c : FileChart) → RegistersBound c
registers_bound (Weighted w) = always_carried fault.Weighted fault_numbers (chain.means (chain_of w)) _ (chain_proofs.registers_bound (chain_of w) (chain_sound w))
registers_bound (Choice c) = always_carried fault.Choice fault_numbers (transitions.means (system_of c)) _ (transitions_proofs.registers_bound (system_of c) (system_sound c))

pub settled_is_distance : (c : FileChart) → SettledIsDistance c
settled_is_distance (Weighted w) = always_carried fault.Weighted fault_numbers (chain.means (chain_of w)) _ (chain_proofs.settled_is_distance (chain_of w) (chain_sound w))
settled_is_distance (Choice c) = always_carried fault.Choice fault_numbers (transitions.means (system_of c)) _ (transitions_proofs.settled_is_distance (system_of c) (system_sound c))

pub entries_bound_distance : (c : FileChart) → EntriesBoundDistance c
entries_bound_distance (Weighted w) = always_carried fault.Weighted fault_numbers (chain.means (chain_of w)) _ (chain_proofs.entries_bound_distance (chain_of w) (chain_sound w))
entries_bound_distance (Choice c) = always_carried fault.Choice fault_numbers (transitions.means (system_of c)) _ (transitions_proofs.entries_bound_distance (system_of c) (system_sound c))
