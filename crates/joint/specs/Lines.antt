-- How a fault is written.
use Rattle.std.specs.Prelude.{ℕ, List, Some, codes, Option}
use Rattle.std.specs.Fmt.{◌++?◌}
use Rattle.joint.specs.declared.fault.Fault.{Fault}
use Rattle.joint.specs.declared.fault.Fault.TheVariants.{Unjudged, Split, NoSitting, First, Second}

-- its number, its place, and what is wrong in words; a fault of a sitting is written after the sitting's number, as the first two arguments tell
abbrev pub fault_text : {P Q : Type 0} → (P → Option (List ℕ)) → (Q → Option (List ℕ)) → Fault P Q → Option (List ℕ)
fault_text first second Unjudged = Some (codes "100 0 (the pair is apart, or has a section that the charts have not)")
fault_text first second Split = Some (codes "141 0 (a pairing begins with how many of the words left are for sitting 0)")
fault_text first second NoSitting = Some (codes "142 0 (potentials begin with their sitting, 0 or 1)")
fault_text first second (First fault) = Some (codes "0 ") ++? first fault
fault_text first second (Second fault) = Some (codes "1 ") ++? second fault
