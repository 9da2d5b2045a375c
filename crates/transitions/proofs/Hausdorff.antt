-- The supported tables of a choice chart are those that the discounted Hausdorff operator does not raise.
use Rattle.std.proofs.Common.{◌≡◌, ℕ, ◌*◌, ◌<◌, ◌≤◌, Bool, true, false, List, ℤ, refl, subst, ⊎_elim, le_trans, mul-le-mul, mul-le-mul_left, arith}
use Rattle.std.proofs.lemmas.Bool.{cases_lt}
use Rattle.std.specs.List.{AllByRecursion}
use Rattle.chart.specs.declared.side.Side.TheVariants.{Upper}
use Rattle.chart.specs.Distances.{Distances}
use Rattle.chart.specs.Meaning.{Shown, Word}
use Rattle.chart.specs.Same.{IsTable}
use Rattle.chart.specs.Bands.{Judges}
use Rattle.chart.proofs.Bands.{judged_of, judges_of}
use Rattle.transitions.specs.System.{System, Sound, successor}
use Rattle.transitions.specs.Pairing.{left, right, pairs, Pairing, PairingShows}
use Rattle.transitions.specs.Meaning.{means}
use Rattle.transitions.specs.Hausdorff.{HausdorffAtMost, SupportedIsNotRaised}
use Rattle.transitions.proofs.Words.{successor_in}
use Rattle.transitions.proofs.Choices.{choices, choices_pair, choice_is}
use Rattle.transitions.proofs.Costs.{left_successor, right_successor, entry_le_cost, cost_is}
use Rattle.transitions.proofs.Laws.{pairing_words}

-- what a pairing shows is at least the Hausdorff distance
module _ (c : System) (s t : ℕ) (ws : List ℤ) (p : Pairing c s t ws) (d : Distances) (claim : ℕ) (shown : PairingShows c d ws claim) where
  at_pair : (j : ℕ) → j < pairs ws → c.a * d.entry (left ws j) (right ws j) ≤ c.b * claim
  at_pair j l = le_trans (mul-le-mul_left c.a (entry_le_cost d ws j l)) shown

  distance_shown : HausdorffAtMost c d s t claim
  distance_shown = record {
    first = λ u h.
        let (j, l, is) = p.left_each u h in
        (right ws j, right_successor c s t ws p j l, subst (λ z. c.a * d.entry z (right ws j) ≤ c.b * claim) is (at_pair j l));
    second = λ v h.
        let (j, l, is) = p.right_each v h in
        (left ws j, left_successor c s t ws p j l, subst (λ z. c.a * d.entry (left ws j) z ≤ c.b * claim) is (at_pair j l));
  }

-- the number that f gives where the test passes
abbrev pick : (b : Bool) → (b ≡ true → ℕ) → ℕ
pick true f = f refl
pick false f = 0

picked : (P : ℕ → Type 0) (b : Bool) (f : b ≡ true → ℕ) → ((e : b ≡ true) → P (f e)) → b ≡ true → P (pick b f)
picked P true f h e = h refl
picked P false f h e = absurd (cc e)

module _ (c : System) (sound : Sound c) where
  -- where the Hausdorff distance is at most the claim, its choices are a pairing that shows the claim
  choices_show : (d : Distances) (s t claim : ℕ) → Judges c.n c.band s t → HausdorffAtMost c d s t claim → (ws : List ℤ) × AllByRecursion Word ws × Shown (means c) Upper d s t ws claim
  choices_show d s t claim j low =
      let g : ℕ → ℕ = λ u. pick (successor c s u) (λ e. (low.first u e).0) in
      let h : ℕ → ℕ = λ v. pick (successor c t v) (λ e. (low.second v e).0) in
      let first : (u : ℕ) → successor c s u ≡ true → (successor c t (g u) ≡ true) × (c.a * d.entry u (g u) ≤ c.b * claim)
      = λ u. picked (λ v. (successor c t v ≡ true) × (c.a * d.entry u v ≤ c.b * claim)) (successor c s u) (λ e. (low.first u e).0) (λ e. ((low.first u e).1, (low.first u e).2)) in
      let second : (v : ℕ) → successor c t v ≡ true → (successor c s (h v) ≡ true) × (c.a * d.entry (h v) v ≤ c.b * claim)
      = λ v. picked (λ u. (successor c s u ≡ true) × (c.a * d.entry u v ≤ c.b * claim)) (successor c t v) (λ e. (low.second v e).0) (λ e. ((low.second v e).1, (low.second v e).2)) in
      let one : (u : ℕ) → successor c s u ≡ true → successor c t (g u) ≡ true = λ u e. (first u e).0 in
      let other : (v : ℕ) → successor c t v ≡ true → successor c s (h v) ≡ true = λ v e. (second v e).0 in
      let ws = choices c sound s t j g h one other in
      let valid = choices_pair c sound s t j g h one other in (
        ws,
        pairing_words c sound s t ws valid,
        record {
          valid = valid;
          shows = cost_is (λ m. c.a * m ≤ c.b * claim) d ws (omega arith)
              (choice_is c sound s t j g h one other (λ x y. c.a * d.entry x y ≤ c.b * claim) (λ u e. (first u e).1) (λ v e. (second v e).1));
        },
      )

  -- no Hausdorff distance is above the top
  at_top : (d : Distances) (s t : ℕ) → IsTable c.n d → Judges c.n c.band s t → HausdorffAtMost c d s t d.top
  at_top d s t table j =
      let small : c.a ≤ c.b = omega (arith, sound.a_most) in
      record {
        first = λ u h. let (v, k) = sound.goes_on t j.second_in in (v, k, mul-le-mul small (table.bounded u v (successor_in c s u h) (successor_in c t v k)));
        second = λ v h. let (u, k) = sound.goes_on s j.first_in in (u, k, mul-le-mul small (table.bounded u v (successor_in c s u k) (successor_in c t v h)));
      }

  pub supported_is_not_raised : SupportedIsNotRaised c
  supported_is_not_raised d table = (
    λ supported. record {
      apart = supported.apart;
      judged = λ s t j. ⊎_elim
          (λ low. let (ws, _, shown) = supported.judged s t (judged_of (means c) c.band (λ s t. refl) s t j) low in distance_shown c s t ws shown.valid d (d.entry s t) shown.shows)
          (λ high. let top : d.top ≡ d.entry s t = omega (arith, table.bounded s t j.first_in j.second_in) in subst (HausdorffAtMost c d s t) top (at_top d s t table j))
          (cases_lt (d.entry s t) d.top);
    },
    λ kept. record {
      top_least = table.top_least;
      bounded = table.bounded;
      apart = kept.apart;
      judged = λ s t j _.
          let judges : Judges c.n c.band s t = judges_of (means c) c.band (λ s t. refl) s t j in
          choices_show d s t (d.entry s t) judges (kept.judged s t judges);
    },
  )
