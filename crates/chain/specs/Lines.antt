-- How a fault is written: its number, its place, and what is wrong in words.
use Rattle.std.specs.Prelude.{ℕ, List, codes}
use Rattle.chart.specs.Texts.{twice}
use Rattle.chain.specs.declared.fault.Fault.{Fault}
use Rattle.chain.specs.declared.fault.Fault.TheVariants.{Unjudged, PairingCount, Section, Amount, FirstMargin, SecondMargin, PotentialsCount, Range, Above}

abbrev pub line : Fault → List ℕ
line Unjudged = codes "100 0 (the pair is apart, or has a section that the chart has not)"
line (PairingCount k) = twice (codes "101 ") k (codes " (a pairing cannot have ") (codes " words: it has triples, at most 1,024)")
line (Section i) = twice (codes "102 ") i (codes " (word ") (codes " names no section)")
line (Amount i) = twice (codes "103 ") i (codes " (word ") (codes " is no amount from 1 to the parts of a row)")
line (FirstMargin u) = twice (codes "104 ") u (codes " (the amounts at section ") (codes " do not add up to its part)")
line (SecondMargin v) = twice (codes "105 ") v (codes " (the amounts at section ") (codes " do not add up to its part in the second row)")
line (PotentialsCount k) = twice (codes "111 ") k (codes " (potentials cannot have ") (codes " words: they have two for each section)")
line (Range i) = twice (codes "112 ") i (codes " (word ") (codes " is further from 0 than the top)")
line (Above i) = twice (codes "113 ") i (codes " (the potentials of the successors at place ") (codes " add up to more than their entry)")
