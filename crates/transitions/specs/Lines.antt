-- How a fault is written: its number, its place, and what is wrong in words.
use Rattle.std.specs.Prelude.{ℕ, List, codes}
use Rattle.chart.specs.Texts.{twice}
use Rattle.transitions.specs.declared.fault.Fault.{Fault}
use Rattle.transitions.specs.declared.fault.Fault.TheVariants.{Unjudged, PairingCount, NoSuccessor, FirstUnpaired, SecondUnpaired, PotentialsCount, NoSide, NoSection, NoFloor, Below}

abbrev pub line : Fault → List ℕ
line Unjudged = codes "100 0 (the pair is apart, or has a section that the chart has not)"
line (PairingCount k) = twice (codes "121 ") k (codes " (a pairing cannot have ") (codes " words: it has pairs, at most 1,024)")
line (NoSuccessor i) = twice (codes "122 ") i (codes " (word ") (codes " names no successor)")
line (FirstUnpaired u) = twice (codes "123 ") u (codes " (successor ") (codes " of the first section is in no pair)")
line (SecondUnpaired v) = twice (codes "124 ") v (codes " (successor ") (codes " of the second section is in no pair)")
line (PotentialsCount k) = twice (codes "131 ") k (codes " (potentials cannot have ") (codes " words: they have three)")
line NoSide = codes "132 0 (the side is not 0 or 1)"
line NoSection = codes "133 1 (the section is no successor on its side)"
line NoFloor = codes "134 2 (the floor is not from 0 to the top)"
line (Below y) = twice (codes "135 ") y (codes " (the entry with successor ") (codes " of the other section is below the floor)")
