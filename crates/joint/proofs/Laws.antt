-- Two sittings keep the laws of a kind of chart, by those of their two charts.
use Rattle.std.proofs.Common.{◌≡◌, Bool, true, false, eqb-true, leb-true, refl}
use Rattle.chart.specs.Meaning.{Meaning}
use Rattle.chart.specs.Laws.{Lawful}
use Rattle.joint.specs.Fitting.{fit}
use Rattle.joint.specs.Meaning.{means, together}
use Rattle.std.proofs.lemmas.Bool.{and_parts}
use Rattle.joint.proofs.Alone.{alone_lawful}
use Rattle.joint.proofs.Joining.{joined_lawful}

module _ {P Q : Type 0} (m : Meaning P) (o : Meaning Q) (lm : Lawful m) (lo : Lawful o) where
  by_fit : (b : Bool) → fit m o ≡ b → Lawful (means m o b)
  by_fit false e = alone_lawful m o.numbers lm
  by_fit true e =
      let (sections, others) = and_parts _ _ e in
      let (numerator, others') = and_parts _ _ others in
      let (denominator, longest) = and_parts _ _ others' in
      joined_lawful m o lm lo (eqb-true _ _ sections) (eqb-true _ _ numerator) (eqb-true _ _ denominator) (leb-true _ _ longest)

  pub lawful : Lawful (together m o)
  lawful = by_fit (fit m o) refl
