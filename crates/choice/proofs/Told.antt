-- What the words of potentials tell, word by word: the fault, or the greatest claim.
use Rattle.std.proofs.Common.{◌≡◌, ℕ, ◌≤◌, Bool, true, false, not, ◌&&◌, eqb, ltb, List, length, ℤ, pos, Some, None, Ok, Err, refl, ap, ◌∙◌, arith}
use Rattle.std.proofs.lemmas.Bool.{or_from, le-ltb}
use Rattle.finite.specs.Search.{least}
use Rattle.finite.proofs.Search.{least_same}
use Rattle.chart.specs.declared.side.Side.TheVariants.{Lower}
use Rattle.chart.specs.Distances.{Distances}
use Rattle.chart.specs.Bands.{unjudged}
use Rattle.chart.specs.Words.{word, outside}
use Rattle.transitions.specs.declared.fault.Fault.TheVariants.{NoSection, NoFloor, Below}
use Rattle.transitions.specs.System.{System, successor}
use Rattle.transitions.specs.Words.{names}
use Rattle.transitions.specs.Potentials.{own, other, facing, greatest_claim}
use Rattle.transitions.specs.Meaning.{weighed}
use Rattle.transitions.proofs.Exits.{no_side, no_section, no_floor, below, lower_section, lower_floor, lower_below, lower_valid}
use Rattle.choice.specs.declared.charts.potentials.PairSide.{PairSide}
use Rattle.choice.specs.declared.charts.potentials.PairSide.TheVariants.{First, Second}
use Rattle.choice.specs.Sides.{number}

side_good : (z : ℤ) (i : PairSide) → z ≡ pos (number i) → outside (pos 0) (pos 1) z ≡ false
side_good z First e = rw e refl
side_good z Second e = rw e refl

module _ (c : System) (d : Distances) (s t : ℕ) (ws : List ℤ) (j : unjudged c.n c.band s t ≡ false) (k : not (eqb (length ws) 3) ≡ false) (i : PairSide) (side_is : word ws 0 ≡ pos (number i)) where
  side_told : no_side c s t ws ≡ false
  side_told = side_good (word ws 0) i side_is

  pub section_fault : names c (own (number i) s t) (word ws 1) ≡ false → weighed c Lower d s t ws ≡ Err NoSection
  section_fault e = lower_section c d s t ws j k side_told (rw side_is (ap not e))

  module _ (x : ℕ) (section_is : word ws 1 ≡ pos x) (leads : successor c (own (number i) s t) x ≡ true) where
    section_told : no_section c s t ws ≡ false
    section_told = rw (side_is, section_is) (ap not leads)

    pub floor_fault : outside (pos 0) (pos d.top) (word ws 2) ≡ true → weighed c Lower d s t ws ≡ Err NoFloor
    floor_fault e = lower_floor c d s t ws j k side_told section_told e

    module _ (f : ℕ) (floor_is : word ws 2 ≡ pos f) (low : f ≤ d.top) where
      floor_told : no_floor c s t ws d ≡ false
      floor_told = rw floor_is (or_from _ _ (le-ltb f 0 (omega arith)) (le-ltb d.top f low))

      abbrev pub under : ℕ → Bool
      under y = successor c (other (number i) s t) y && ltb (facing d (number i) x y) f

      below_is : least c.n (below c s t ws d) ≡ least c.n under
      below_is = least_same c.n (below c s t ws d) under (λ y l. rw (side_is, section_is, floor_is) refl)

      pub below_fault : (y : ℕ) → least c.n under ≡ Some y → weighed c Lower d s t ws ≡ Err (Below y)
      below_fault y e = lower_below c d s t ws j k side_told section_told floor_told y (below_is ∙ e)

      pub valid : least c.n under ≡ None → weighed c Lower d s t ws ≡ Ok (greatest_claim c f)
      valid e = lower_valid c d s t ws j k side_told section_told floor_told (below_is ∙ e) ∙ rw floor_is refl
