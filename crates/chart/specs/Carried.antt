-- A chart of one kind as a value of a type that has several kinds: it means what it meant, with its faults as that type's.
use Rattle.std.specs.Prelude.{ℕ, List}
use Rattle.chart.specs.Weighing.{fault_as}
use Rattle.chart.specs.Meaning.{Meaning}

abbrev pub carried : {F G : Type 0} → (F → G) → (G → List ℕ) → Meaning F → Meaning G
carried wrap numbers m = record {
  sections = m.sections;
  numerator = m.numerator;
  denominator = m.denominator;
  longest = m.longest;
  apart = m.apart;
  valid = m.valid;
  shows = m.shows;
  weigh = λ side d s t ws. fault_as wrap (m.weigh side d s t ws);
  numbers = numbers;
}
