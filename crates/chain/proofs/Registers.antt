-- Every register over a weighted chart bounds the discounted bisimilarity distance.
use Rattle.std.proofs.Common.{◌≤◌, refl}
use Rattle.chart.specs.Distances.{Distances}
use Rattle.history.specs.Bounding.{Bounding}
use Rattle.history.specs.Rules.{over}
use Rattle.history.proofs.Fractions.{at_most_equal}
use Rattle.history.proofs.Sound.{upper_supported, lower_bounded}
use Rattle.chain.specs.Chain.{Chain, Sound}
use Rattle.chain.specs.Meaning.{means}
use Rattle.chain.specs.Coupling.{NowhereRaised}
use Rattle.chain.specs.Registers.{RegistersBound, SettledIsDistance, EntriesBoundDistance}
use Rattle.chain.proofs.Couplings.{couplings_bound}
use Rattle.chain.proofs.Laws.{lawful, nowhere_raised}

module _ (c : Chain) (sound : Sound c) where
  -- a table that the operator nowhere raises bounds what potentials show
  bounding : (e : Distances) → 1 ≤ e.top → NowhereRaised c e → Bounding (means c) e
  bounding e some low = record {
    top_least = some;
    apart = low.apart;
    holds = λ s t j under l potentials x k shown near.
        let (coupling, mean) = low.judged s t shown.valid.judged in
        couplings_bound c sound l e s t potentials x (e.entry s t) k coupling shown mean near;
  }

  pub registers_bound : RegistersBound c
  registers_bound K k σ h run = record {
    upper = nowhere_raised c sound (over K σ.upper) (upper_supported (means c) (lawful c sound) K k σ h run);
    lower = λ e some low. lower_bounded (means c) (lawful c sound) K k σ h run e (bounding e some low);
  }

  pub settled_is_distance : SettledIsDistance c
  settled_is_distance K k σ h run s t j equal =
      let bounds = registers_bound K k σ h run in
      record {
        top_least = k.0;
        attained = (over K σ.upper, k.0, bounds.upper, refl);
        least = λ e some low. rw (← equal) (bounds.lower e some low s t j.first_in j.second_in);
      }

  pub entries_bound_distance : EntriesBoundDistance c
  entries_bound_distance K k σ h run s t x J ls lt distance =
      let bounds = registers_bound K k σ h run in
      let (e, some, low, is) = distance.attained in
      let under = bounds.lower e some low s t ls lt in
      (at_most_equal (σ.lower s t) (e.entry s t) x J K e.top some under is, distance.least (over K σ.upper) k.0 bounds.upper)
