-- The numbers of a fault: its sitting's, where one of two finds it, then its own and its place.
use Rattle.std.specs.Prelude.{ℕ, List, [], ◌∷◌, Some, None, Option}
use Rattle.file_registers.specs.declared.faults.FaultNumbers.{FaultNumbers}
use Rattle.file_registers.specs.declared.faults.Sitting.{Sitting}
use Rattle.file_registers.specs.declared.faults.Sitting.TheVariants.{First, Second}

abbrev pub sitting_number : Sitting → ℕ
sitting_number First = 0
sitting_number Second = 1

abbrev pub after_sitting : Option Sitting → List ℕ → List ℕ
after_sitting None ns = ns
after_sitting (Some sitting) ns = sitting_number sitting ∷ ns

abbrev pub numbers_of : FaultNumbers → List ℕ
numbers_of f = after_sitting f.sitting (f.number ∷ f.place ∷ [])
