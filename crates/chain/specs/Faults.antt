-- Each fault's number and place.
use Rattle.std.specs.Prelude.{ℕ, List, [], ◌∷◌}
use Rattle.chain.specs.declared.fault.Fault.{Fault}
use Rattle.chain.specs.declared.fault.Fault.TheVariants.{Unjudged, PairingCount, Section, Amount, FirstMargin, SecondMargin, PotentialsCount, Range, Above}

abbrev pub number_of : Fault → ℕ
number_of Unjudged = 100
number_of (PairingCount k) = 101
number_of (Section i) = 102
number_of (Amount i) = 103
number_of (FirstMargin u) = 104
number_of (SecondMargin v) = 105
number_of (PotentialsCount k) = 111
number_of (Range i) = 112
number_of (Above i) = 113

abbrev pub place_of : Fault → ℕ
place_of Unjudged = 0
place_of (PairingCount k) = k
place_of (Section i) = i
place_of (Amount i) = i
place_of (FirstMargin u) = u
place_of (SecondMargin v) = v
place_of (PotentialsCount k) = k
place_of (Range i) = i
place_of (Above i) = i

abbrev pub fault_numbers : Fault → List ℕ
fault_numbers f = number_of f ∷ place_of f ∷ []
