-- What a weighing answers, check by check.
use Rattle.std.proofs.Common.{◌≡◌, ℕ, ◌%◌, Bool, true, false, not, ◌&&◌, ◌||◌, eqb, ltb, List, length, ℤ, pos, Some, None, Ok, Err}
use Rattle.std.specs.Option.{option_map}
use Rattle.finite.specs.Search.{least}
use Rattle.chart.specs.declared.side.Side.TheVariants.{Upper, Lower}
use Rattle.chart.specs.Distances.{Distances}
use Rattle.chart.specs.Bands.{unjudged}
use Rattle.chart.specs.Words.{word, outside}
use Rattle.transitions.specs.declared.fault.Fault.{Fault}
use Rattle.transitions.specs.declared.fault.Fault.TheVariants.{Unjudged, PairingCount, NoSuccessor, FirstUnpaired, SecondUnpaired, PotentialsCount, NoSide, NoSection, NoFloor, Below}
use Rattle.transitions.specs.System.{System, successor}
use Rattle.transitions.specs.Words.{names}
use Rattle.transitions.specs.Pairing.{left, right, paired, cost, least_claim, bad_word, pairing_fault}
use Rattle.transitions.specs.Potentials.{side, section, floor, own, other, facing, greatest_claim, potentials_fault}
use Rattle.transitions.specs.Meaning.{weighed}

-- the tests of a showing, in the order of its checks
module _ (c : System) (s t : ℕ) (ws : List ℤ) where
  abbrev pub uneven : Bool
  uneven = not (eqb (length ws % 2) 0) || ltb 2048 (length ws)

  abbrev pub unpaired_first : ℕ → Bool
  unpaired_first u = successor c s u && not (paired left ws u)

  abbrev pub unpaired_second : ℕ → Bool
  unpaired_second v = successor c t v && not (paired right ws v)

  abbrev pub no_side : Bool
  no_side = outside (pos 0) (pos 1) (word ws 0)

  abbrev pub no_section : Bool
  no_section = not (names c (own (side ws) s t) (word ws 1))

  module _ (d : Distances) where
    abbrev pub no_floor : Bool
    no_floor = outside (pos 0) (pos d.top) (word ws 2)

    abbrev pub below : ℕ → Bool
    below y = successor c (other (side ws) s t) y && ltb (facing d (side ws) (section ws) y) (floor ws)

module _ (c : System) (d : Distances) (s t : ℕ) (ws : List ℤ) where
  pub upper_unjudged : unjudged c.n c.band s t ≡ true → weighed c Upper d s t ws ≡ Err Unjudged
  unfolding pairing_fault
  upper_unjudged j = simp j

  pub lower_unjudged : unjudged c.n c.band s t ≡ true → weighed c Lower d s t ws ≡ Err Unjudged
  unfolding potentials_fault
  lower_unjudged j = simp j

  module _ (j : unjudged c.n c.band s t ≡ false) where
    pub upper_count : uneven c s t ws ≡ true → weighed c Upper d s t ws ≡ Err (PairingCount (length ws))
    unfolding pairing_fault
    upper_count k = simp (j, k)

    module _ (k : uneven c s t ws ≡ false) where
      pub upper_word : (f : Fault) → option_map NoSuccessor (least (length ws) (bad_word c s t ws)) ≡ Some f → weighed c Upper d s t ws ≡ Err f
      unfolding pairing_fault
      upper_word f w = simp (j, k, w)

      module _ (w : least (length ws) (bad_word c s t ws) ≡ None) where
        pub upper_first : (u : ℕ) → least c.n (unpaired_first c s t ws) ≡ Some u → weighed c Upper d s t ws ≡ Err (FirstUnpaired u)
        unfolding pairing_fault
        upper_first u f = simp (j, k, w, f)

        module _ (f : least c.n (unpaired_first c s t ws) ≡ None) where
          pub upper_second : (v : ℕ) → least c.n (unpaired_second c s t ws) ≡ Some v → weighed c Upper d s t ws ≡ Err (SecondUnpaired v)
          unfolding pairing_fault
          upper_second v g = simp (j, k, w, f, g)

          pub upper_valid : least c.n (unpaired_second c s t ws) ≡ None → weighed c Upper d s t ws ≡ Ok (least_claim c (cost d ws))
          unfolding pairing_fault
          upper_valid g = simp (j, k, w, f, g)

    pub lower_count : not (eqb (length ws) 3) ≡ true → weighed c Lower d s t ws ≡ Err (PotentialsCount (length ws))
    unfolding potentials_fault
    lower_count k = simp (j, k)

    module _ (k : not (eqb (length ws) 3) ≡ false) where
      pub lower_side : no_side c s t ws ≡ true → weighed c Lower d s t ws ≡ Err NoSide
      unfolding potentials_fault
      lower_side i = simp (j, k, i)

      module _ (i : no_side c s t ws ≡ false) where
        pub lower_section : no_section c s t ws ≡ true → weighed c Lower d s t ws ≡ Err NoSection
        unfolding potentials_fault
        lower_section x = simp (j, k, i, x)

        module _ (x : no_section c s t ws ≡ false) where
          pub lower_floor : no_floor c s t ws d ≡ true → weighed c Lower d s t ws ≡ Err NoFloor
          unfolding potentials_fault
          lower_floor f = simp (j, k, i, x, f)

          module _ (f : no_floor c s t ws d ≡ false) where
            pub lower_below : (y : ℕ) → least c.n (below c s t ws d) ≡ Some y → weighed c Lower d s t ws ≡ Err (Below y)
            unfolding potentials_fault
            lower_below y b = simp (j, k, i, x, f, b)

            pub lower_valid : least c.n (below c s t ws d) ≡ None → weighed c Lower d s t ws ≡ Ok (greatest_claim c (floor ws))
            unfolding potentials_fault
            lower_valid b = simp (j, k, i, x, f, b)
