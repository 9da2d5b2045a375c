-- Every register over a choice chart bounds the distance.
use Rattle.std.proofs.Common.{refl}
use Rattle.chart.specs.Distances.{Distances}
use Rattle.chart.specs.Same.{IsTable}
use Rattle.chart.specs.Supported.{Supported}
use Rattle.history.specs.Rules.{over}
use Rattle.history.proofs.Fractions.{at_most_equal}
use Rattle.history.proofs.Sound.{upper_supported, lower_true}
use Rattle.transitions.specs.System.{System, Sound}
use Rattle.transitions.specs.Meaning.{means}
use Rattle.transitions.specs.Registers.{RegistersBound, SettledIsDistance, EntriesBoundDistance}
use Rattle.transitions.proofs.Hausdorff.{supported_is_not_raised}
use Rattle.transitions.proofs.Laws.{lawful}

module _ (c : System) (sound : Sound c) where
  is_table : (d : Distances) → Supported (means c) d → IsTable c.n d
  is_table d sup = record { top_least = sup.top_least; bounded = sup.bounded }

  pub registers_bound : RegistersBound c
  registers_bound K k σ h run =
      let sup = upper_supported (means c) (lawful c sound) K k σ h run in
      record {
        upper = (supported_is_not_raised c sound (over K σ.upper) (is_table _ sup)).0 sup;
        lower = λ e table low. lower_true (means c) (lawful c sound) K k σ h run e ((supported_is_not_raised c sound e table).1 low);
      }

  pub settled_is_distance : SettledIsDistance c
  settled_is_distance K k σ h run s t j equal =
      let bounds = registers_bound K k σ h run in
      let table = is_table _ (upper_supported (means c) (lawful c sound) K k σ h run) in
      record {
        top_least = k.0;
        attained = (over K σ.upper, table, bounds.upper, refl);
        least = λ e table low. rw (← equal) (bounds.lower e table low s t j.first_in j.second_in);
      }

  pub entries_bound_distance : EntriesBoundDistance c
  entries_bound_distance K k σ h run s t x J ls lt distance =
      let bounds = registers_bound K k σ h run in
      let table = is_table _ (upper_supported (means c) (lawful c sound) K k σ h run) in
      let (e, bounded, low, is) = distance.attained in
      let under = bounds.lower e bounded low s t ls lt in
      (at_most_equal (σ.lower s t) (e.entry s t) x J K e.top bounded.top_least under is, distance.least (over K σ.upper) table bounds.upper)
