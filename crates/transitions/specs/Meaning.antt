-- What a choice chart means.
use Rattle.std.specs.Prelude.{ℕ, List, ℤ, Result}
use Rattle.chart.specs.declared.side.Side.{Side}
use Rattle.chart.specs.declared.side.Side.TheVariants.{Upper, Lower}
use Rattle.chart.specs.Distances.{Distances}
use Rattle.chart.specs.Weighing.{answer}
use Rattle.chart.specs.Meaning.{Meaning}
use Rattle.chart.specs.Bands.{parted}
use Rattle.transitions.specs.declared.fault.Fault.{Fault}
use Rattle.transitions.specs.System.{System}
use Rattle.transitions.specs.Pairing.{Pairing, PairingShows, pairing_fault, cost, least_claim}
use Rattle.transitions.specs.Potentials.{Potentials, PotentialsShow, potentials_fault, floor, greatest_claim}
use Rattle.transitions.specs.Faults.{fault_numbers}

abbrev pub Valid : System → Side → Distances → ℕ → ℕ → List ℤ → Type 0
Valid c Upper d s t ws = Pairing c s t ws
Valid c Lower d s t ws = Potentials c d s t ws

abbrev pub Shows : System → Side → Distances → List ℤ → ℕ → Type 0
Shows c Upper d ws claim = PairingShows c d ws claim
Shows c Lower d ws claim = PotentialsShow c ws claim

abbrev pub weighed : System → Side → Distances → ℕ → ℕ → List ℤ → Result ℕ Fault
weighed c Upper d s t ws = answer (pairing_fault c s t ws) (least_claim c (cost d ws))
weighed c Lower d s t ws = answer (potentials_fault c d s t ws) (greatest_claim c (floor ws))

abbrev pub means : System → Meaning Fault
means c = record {
  sections = c.n;
  numerator = c.a;
  denominator = c.b;
  longest = 2048;
  apart = parted c.band;
  valid = Valid c;
  shows = λ side d s t ws claim. Shows c side d ws claim;
  weigh = weighed c;
  numbers = fault_numbers;
}
