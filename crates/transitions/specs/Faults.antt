-- Each fault's number and place.
use Rattle.std.specs.Prelude.{ℕ, List, [], ◌∷◌}
use Rattle.transitions.specs.declared.fault.Fault.{Fault}
use Rattle.transitions.specs.declared.fault.Fault.TheVariants.{Unjudged, PairingCount, NoSuccessor, FirstUnpaired, SecondUnpaired, PotentialsCount, NoSide, NoSection, NoFloor, Below}

abbrev pub number_of : Fault → ℕ
number_of Unjudged = 100
number_of (PairingCount k) = 121
number_of (NoSuccessor i) = 122
number_of (FirstUnpaired u) = 123
number_of (SecondUnpaired v) = 124
number_of (PotentialsCount k) = 131
number_of NoSide = 132
number_of NoSection = 133
number_of NoFloor = 134
number_of (Below y) = 135

abbrev pub place_of : Fault → ℕ
place_of Unjudged = 0
place_of (PairingCount k) = k
place_of (NoSuccessor i) = i
place_of (FirstUnpaired u) = u
place_of (SecondUnpaired v) = v
place_of (PotentialsCount k) = k
place_of NoSide = 0
place_of NoSection = 1
place_of NoFloor = 2
place_of (Below y) = y

abbrev pub fault_numbers : Fault → List ℕ
fault_numbers f = number_of f ∷ place_of f ∷ []
