-- Each fault's numbers: those of a fault of a sitting come after the sitting's own number.
use Rattle.std.specs.Prelude.{ℕ, List, [], ◌∷◌}
use Rattle.joint.specs.declared.fault.Fault.{Fault}
use Rattle.joint.specs.declared.fault.Fault.TheVariants.{Unjudged, Split, NoSitting, First, Second}

abbrev pub fault_numbers : {P Q : Type 0} → (P → List ℕ) → (Q → List ℕ) → Fault P Q → List ℕ
fault_numbers first second Unjudged = 100 ∷ 0 ∷ []
fault_numbers first second Split = 141 ∷ 0 ∷ []
fault_numbers first second NoSitting = 142 ∷ 0 ∷ []
fault_numbers first second (First fault) = 0 ∷ first fault
fault_numbers first second (Second fault) = 1 ∷ second fault
