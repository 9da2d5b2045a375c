-- Weighted charts keep every law of a kind, and their supported tables are nowhere raised.
use Rattle.std.proofs.Common.{◌≡◌, ℕ, zero, suc, ◌+◌, ◌-◌, ◌*◌, ◌/◌, ◌%◌, ◌<◌, ◌≤◌, true, List, length, ℤ, pos, ◌*ℤ◌, Some, None, Err, Option, sym, refl, ap, ◌∙◌, inl, inr, ⊎_elim, le_trans, mul-le-mul, mul-le-mul_left, mul-pos, arith}
use borrow.Author.Differences.{le_out, at_most_in}
use Rattle.std.proofs.lemmas.Bool.{cases_lt}
use Rattle.std.specs.List.{AllByRecursion}
use Rattle.finite.specs.Sums.{sum}
use Rattle.finite.proofs.Sums.{sum_le, sum_mul}
use Rattle.finite.proofs.Lists.{each_at}
use Rattle.chart.specs.declared.side.Side.{Side}
use Rattle.chart.specs.declared.side.Side.TheVariants.{Upper, Lower}
use Rattle.chart.specs.Distances.{Distances}
use Rattle.chart.specs.Weighing.{Weaker, Weighs, answer}
use Rattle.chart.specs.Meaning.{Shown, Word}
use Rattle.chart.specs.Laws.{Tighter, Lawful}
use Rattle.chart.specs.Bands.{unjudged}
use Rattle.chart.specs.Words.{word}
use Rattle.chart.proofs.Bands.{parted_self, judged_of, is_unjudged}
use Rattle.chart.proofs.Claims.{least_shown}
use Rattle.chain.specs.declared.fault.Fault.{Fault}
use Rattle.chain.specs.declared.fault.Fault.TheVariants.{Unjudged}
use Rattle.chain.specs.Chain.{Chain, Sound}
use Rattle.chain.specs.Pairing.{left, right, amount, triples, cost, Pairing, PairingShows, pairing_fault, least_claim}
use Rattle.chain.specs.Potentials.{gain, Potentials, PotentialsShow, potentials_fault, greatest_claim}
use Rattle.chain.specs.Meaning.{Valid, Shows, weighed, means}
use Rattle.chain.specs.Coupling.{Coupling, total, MeanAtMost, SupportedIsNowhereRaised}
use Rattle.chain.proofs.Valid.{pairing_from, pairing_to, potentials_from, potentials_to}
use Rattle.chain.proofs.Words.{between_word}
use Rattle.chain.proofs.Claims.{signed_greatest_shown}
use Rattle.chain.proofs.Couplings.{left_in, right_in, spelled, spelled_total, mean_shown, product, mass, potentials_bounded}
use Rattle.chain.proofs.Diagonal.{itself}

module _ (c : Chain) (sound : Sound c) where
  scale_some : 0 < c.b * c.whole
  scale_some = mul-pos {m = c.b} {n = c.whole} (omega (arith, sound.a_most)) sound.whole_least

  weighs : (side : Side) (d : Distances) (s t : ℕ) (ws : List ℤ) → Weighs side (Valid c side d s t ws) (Shows c side d s t ws) (weighed c side d s t ws)
  weighs Upper d s t ws = by (pairing_fault c s t ws) refl where
    by : (o : Option Fault) → pairing_fault c s t ws ≡ o → Weighs Upper (Pairing c s t ws) (PairingShows c d ws) (answer o (least_claim c (cost d ws)))
    by (Some f) e = λ v. cc (sym (pairing_to c s t ws v) ∙ e)
    by None e = (pairing_from c s t ws e, least_shown c.a (c.b * c.whole) scale_some (cost d ws))
  weighs Lower d s t ws = by (potentials_fault c d s t ws) refl where
    by : (o : Option Fault) → potentials_fault c d s t ws ≡ o → Weighs Lower (Potentials c d s t ws) (PotentialsShow c s t ws) (answer o (greatest_claim c (gain c s t ws)))
    by (Some f) e = λ v. cc (sym (potentials_to c d s t ws v) ∙ e)
    by None e = (potentials_from c d s t ws e, signed_greatest_shown c.a (c.b * c.whole) scale_some (gain c s t ws))

  outside_first : (side : Side) (d : Distances) (s t : ℕ) (ws : List ℤ) → unjudged c.n c.band s t ≡ true → weighed c side d s t ws ≡ Err Unjudged
  unfolding pairing_fault potentials_fault
  outside_first Upper d s t ws e = rw e
  outside_first Lower d s t ws e = rw e

  -- by the place in its triple
  pairing_words : (d : Distances) (s t : ℕ) (ws : List ℤ) → Valid c Upper d s t ws → AllByRecursion Word ws
  pairing_words d s t ws v = each_at Word ws (pos 0) (λ i l. by i l (i % 3) refl) where
    by : (i : ℕ) → i < length ws → (k : ℕ) → i % 3 ≡ k → Word (word ws i)
    by i l zero e =
        let at : 3 * (i / 3) ≡ i = omega arith in
        between_word 0 (c.n - 1) (word ws i) (omega (arith, sound.n_most)) (rw at at (v.left_word (i / 3) (omega (arith, v.threes))))
    by i l (suc zero) e =
        let at : 3 * (i / 3) + 1 ≡ i = omega arith in
        between_word 0 (c.n - 1) (word ws i) (omega (arith, sound.n_most)) (rw at at (v.right_word (i / 3) (omega (arith, v.threes))))
    by i l (suc (suc k)) e =
        let at : 3 * (i / 3) + 2 ≡ i = omega arith in
        between_word 1 c.whole (word ws i) (omega (arith, sound.whole_most)) (rw at at (v.amount_word (i / 3) (omega (arith, v.threes))))

  short : (side : Side) (d : Distances) (s t : ℕ) (ws : List ℤ) → Valid c side d s t ws → length ws ≤ 3072
  short Upper d s t ws v = v.few
  short Lower d s t ws v = omega (arith, v.count, sound.n_most)

  closed : (side : Side) (d : Distances) (s t : ℕ) (ws : List ℤ) (x y : ℕ) → Shown (means c) side d s t ws x → Weaker side x y → Shown (means c) side d s t ws y
  closed Upper d s t ws x y h l = record { valid = h.valid; shows = le_trans h.shows (mul-le-mul_left (c.b * c.whole) l) }
  closed Lower d s t ws x y h l = record {
    valid = h.valid;
    shows = ⊎_elim (λ e. inl (omega arith))
        (λ b. inr (at_most_in (pos (c.b * c.whole * y)) (pos c.a *ℤ gain c s t ws)
        (omega (arith, le_out (pos (c.b * c.whole * x)) (pos c.a *ℤ gain c s t ws) b, mul-le-mul_left (c.b * c.whole) l)))) h.shows;
  }

  monotone : (side : Side) (d e : Distances) (s t : ℕ) (ws : List ℤ) (x : ℕ) → Tighter side c.n e d → Shown (means c) side d s t ws x → Shown (means c) side e s t ws x
  monotone Upper d e s t ws x tight h =
      let v = h.valid in
      record {
        valid = v;
        shows = le_trans (mul-le-mul_left c.a
            (sum_le (triples ws) _ _ (λ j l. mul-le-mul_left (amount ws j) (tight.entries (left ws j) (right ws j) (left_in c s t ws v j l) (right_in c s t ws v j l))))) h.shows;
      }
  monotone Lower d e s t ws x tight h =
      let v = h.valid in
      record {
        valid = record {
          judged = v.judged;
          count = v.count;
          range = λ i l. rw tight.tops (v.range i l);
          under = λ u w lu lw hu hw. at_most_in _ (pos (e.entry u w)) (omega (arith, le_out _ (pos (d.entry u w)) (v.under u w lu lw hu hw), tight.entries u w lu lw));
        };
        shows = h.shows;
      }

  pub lawful : Lawful (means c)
  lawful = record {
    sections_least = sound.n_least;
    sections_most = sound.n_most;
    numerator_least = sound.a_least;
    discounted = sound.a_most;
    denominator_most = sound.b_most;
    longest_most = omega arith;
    weighs = weighs;
    unjudged = λ side d s t ws h. (Unjudged, outside_first side d s t ws (is_unjudged (means c) c.band (λ s t. refl) s t h), refl);
    words = pairing_words;
    short = short;
    self_judged = λ s l. parted_self c.band s;
    self_paired = λ s l.
        let i = itself c sound s l in
        (i.words, i.fit, λ d zeros. record { valid = i.valid; shows = omega (arith, ap (λ r. c.a * r) (i.free d zeros)) });
    closed = closed;
    monotone = monotone;
    cross = λ l e s t potentials pairing x y k some lower upper near.
        potentials_bounded c sound l e s t potentials x y k (spelled c s t pairing upper.valid) lower.valid lower.shows (mean_shown c s t pairing upper.valid e y upper.shows) near;
  }

  -- a coupling's total is at most its mass times the top
  total_most : (d : Distances) (s t : ℕ) (k : Coupling c s t) → s < c.n → ((u v : ℕ) → u < c.n → v < c.n → d.entry u v ≤ d.top) → total c k d ≤ k.times * c.whole * d.top
  total_most d s t k l bounded =
      let n = c.n in
      let row : (u : ℕ) → u < n → sum n (λ v. k.amounts u v * d.entry u v) ≤ d.top * sum n (λ v. k.amounts u v)
      = λ u lu. omega (
        arith,
        sum_le n (λ v. k.amounts u v * d.entry u v) (λ v. d.top * k.amounts u v) (λ v lv. omega (arith, mul-le-mul_left (k.amounts u v) (bounded u v lu lv))),
        sum_mul n d.top (λ v. k.amounts u v),
      ) in
      omega (arith, sum_le n _ _ row, sum_mul n d.top (λ u. sum n (λ v. k.amounts u v)), ap (λ z. d.top * z) (mass c s t k sound l))

  mean_top : (d : Distances) (s t : ℕ) (k : Coupling c s t) → s < c.n → ((u v : ℕ) → u < c.n → v < c.n → d.entry u v ≤ d.top) → MeanAtMost c k d d.top
  mean_top d s t k l bounded =
      let small : c.a ≤ c.b = omega (arith, sound.a_most) in
      omega (arith, mul-le-mul small (total_most d s t k l bounded))

  pub cost_most : (d : Distances) (s t : ℕ) (ws : List ℤ) → Pairing c s t ws → ((u v : ℕ) → u < c.n → v < c.n → d.entry u v ≤ d.top) → cost d ws ≤ c.whole * d.top
  cost_most d s t ws v bounded =
      rw (← spelled_total c s t ws v d)
      (omega (arith, total_most d s t (spelled c s t ws v) v.judged.first_in bounded))

  pub nowhere_raised : SupportedIsNowhereRaised c
  nowhere_raised d sup = record {
    apart = sup.apart;
    judged = λ s t j. ⊎_elim
        (λ low.
        let (ws, words, shown) = sup.judged s t (judged_of (means c) c.band (λ s t. refl) s t j) low in
        (spelled c s t ws shown.valid, mean_shown c s t ws shown.valid d (d.entry s t) shown.shows))
        (λ high.
        let top : d.entry s t ≡ d.top = omega (arith, sup.bounded s t j.first_in j.second_in) in
        let k = product c sound s t j.first_in j.second_in in
        (k, rw top (mean_top d s t k j.first_in sup.bounded)))
        (cases_lt (d.entry s t) d.top);
  }
