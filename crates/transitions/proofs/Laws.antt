-- Choice charts keep every law of a kind.
use Rattle.std.proofs.Common.{◌≡◌, ℕ, ◌+◌, ◌*◌, ◌%◌, ◌<◌, ◌≤◌, cond, eqb, true, List, length, ℤ, pos, Some, None, Err, Option, sym, refl, ap, ◌∙◌, le_trans, mul-le-mul_left, arith}
use Rattle.std.specs.List.{AllByRecursion}
use Rattle.finite.proofs.Lists.{each_at}
use Rattle.chart.specs.declared.side.Side.{Side}
use Rattle.chart.specs.declared.side.Side.TheVariants.{Upper, Lower}
use Rattle.chart.specs.Distances.{Distances}
use Rattle.chart.specs.Weighing.{Weaker, Weighs, answer}
use Rattle.chart.specs.Meaning.{Shown, Word}
use Rattle.chart.specs.Laws.{Tighter, Within, Lawful}
use Rattle.chart.specs.Bands.{Judges, unjudged}
use Rattle.chart.specs.Words.{word}
use Rattle.chart.proofs.Bands.{parted_self, is_unjudged}
use Rattle.chart.proofs.Claims.{least_shown, greatest_shown}
use Rattle.transitions.specs.declared.fault.Fault.{Fault}
use Rattle.transitions.specs.declared.fault.Fault.TheVariants.{Unjudged}
use Rattle.transitions.specs.System.{System, Sound}
use Rattle.transitions.specs.Pairing.{left, right, cost, Pairing, PairingShows, pairing_fault, least_claim}
use Rattle.transitions.specs.Potentials.{side, section, floor, own, Potentials, PotentialsShow, potentials_fault, greatest_claim}
use Rattle.transitions.specs.Meaning.{Valid, Shows, weighed, means}
use Rattle.transitions.proofs.Words.{successor_in, named, named_word}
use Rattle.transitions.proofs.Exits.{upper_unjudged, lower_unjudged}
use Rattle.transitions.proofs.Valid.{pairing_from, pairing_to, each_named, potentials_from, potentials_to}
use Rattle.transitions.proofs.Choices.{choices, choices_pair, choice_is}
use Rattle.transitions.proofs.Costs.{left_successor, right_successor, entry_le_cost, cost_is, cost_le, floor_met, facing_le, crossed}

module _ (c : System) (sound : Sound c) where
  some : 0 < c.b
  some = omega (arith, sound.a_most)

  weighs : (side : Side) (d : Distances) (s t : ℕ) (ws : List ℤ) → Weighs side (Valid c side d s t ws) (Shows c side d ws) (weighed c side d s t ws)
  weighs Upper d s t ws = by (pairing_fault c s t ws) refl where
    by : (o : Option Fault) → pairing_fault c s t ws ≡ o → Weighs Upper (Pairing c s t ws) (PairingShows c d ws) (answer o (least_claim c (cost d ws)))
    by (Some f) e = λ v. cc (sym (pairing_to c s t ws v) ∙ e)
    by None e = (pairing_from c s t ws e, least_shown c.a c.b some (cost d ws))
  weighs Lower d s t ws = by (potentials_fault c d s t ws) refl where
    by : (o : Option Fault) → potentials_fault c d s t ws ≡ o → Weighs Lower (Potentials c d s t ws) (PotentialsShow c ws) (answer o (greatest_claim c (floor ws)))
    by (Some f) e = λ v. cc (sym (potentials_to c d s t ws v) ∙ e)
    by None e = (potentials_from c d s t ws e, greatest_shown c.a c.b some (floor ws))

  outside_first : (side : Side) (d : Distances) (s t : ℕ) (ws : List ℤ) → unjudged c.n c.band s t ≡ true → weighed c side d s t ws ≡ Err Unjudged
  outside_first Upper = upper_unjudged c
  outside_first Lower = lower_unjudged c

  pub pairing_words : (s t : ℕ) (ws : List ℤ) → Pairing c s t ws → AllByRecursion Word ws
  pairing_words s t ws v = each_at Word ws (pos 0) (λ i l. named_word c (cond (eqb (i % 2) 0) s t) (word ws i) (each_named c s t ws v i l) sound)

  short : (side : Side) (d : Distances) (s t : ℕ) (ws : List ℤ) → Valid c side d s t ws → length ws ≤ 2048
  short Upper d s t ws v = v.few
  short Lower d s t ws v = omega (arith, v.count)

  -- each successor is its own partner
  self_paired : (s : ℕ) → s < c.n → (ws : List ℤ) × AllByRecursion Word ws × ((d : Distances) → ((x : ℕ) → x < c.n → d.entry x x ≡ 0) → Shown (means c) Upper d s s ws 0)
  self_paired s l =
      let j : Judges c.n c.band s s = record { first_in = l; second_in = l; alike = refl } in
      let ws = choices c sound s s j (λ u. u) (λ v. v) (λ u h. h) (λ v h. h) in
      let valid = choices_pair c sound s s j (λ u. u) (λ v. v) (λ u h. h) (λ v h. h) in (
        ws,
        pairing_words s s ws valid,
        λ d zeros.
            let free : cost d ws ≡ 0
            = cost_is (λ x. x ≡ 0) d ws refl (choice_is c sound s s j (λ u. u) (λ v. v) (λ u h. h) (λ v h. h) (λ x y. d.entry x y ≡ 0) (λ u h. zeros u (successor_in c s u h)) (λ v h. zeros v (successor_in c s v h))) in
            record { valid = valid; shows = omega (arith, ap (λ m. c.a * m) free) },
      )

  closed : (side : Side) (d : Distances) (s t : ℕ) (ws : List ℤ) (x y : ℕ) → Shown (means c) side d s t ws x → Weaker side x y → Shown (means c) side d s t ws y
  closed Upper d s t ws x y h l = record { valid = h.valid; shows = le_trans h.shows (mul-le-mul_left c.b l) }
  closed Lower d s t ws x y h l = record { valid = h.valid; shows = le_trans (mul-le-mul_left c.b l) h.shows }

  monotone : (side : Side) (d e : Distances) (s t : ℕ) (ws : List ℤ) (x : ℕ) → Tighter side c.n e d → Shown (means c) side d s t ws x → Shown (means c) side e s t ws x
  monotone Upper d e s t ws x tight h = record { valid = h.valid; shows = le_trans (mul-le-mul_left c.a (cost_le c s t ws h.valid d e tight.entries)) h.shows }
  monotone Lower d e s t ws x tight h =
      let v = h.valid in
      let at = successor_in c _ _ (named c (own (side ws) s t) (word ws 1) v.section_word) in
      record {
        valid = record {
          judged = v.judged;
          count = v.count;
          side_word = v.side_word;
          section_word = v.section_word;
          floor_word = rw tight.tops v.floor_word;
          under = λ y k. le_trans (v.under y k) (facing_le c.n d e (eqb (side ws) 0) (section ws) y at (successor_in c _ y k) (λ x y lx ly. tight.entries x y lx ly));
        };
        shows = h.shows;
      }

  cross : (l e : Distances) (s t : ℕ) (potentials pairing : List ℤ) (x y k : ℕ)
      → Shown (means c) Lower l s t potentials x → Shown (means c) Upper e s t pairing y → Within c.n l e k → c.b * (x * e.top) ≤ c.b * (y * l.top) + c.a * k
  cross l e s t potentials pairing x y k lower upper near =
      let p = lower.valid in
      let v = upper.valid in
      let u = named c (own (side potentials) s t) (word potentials 1) p.section_word in
      let (j, inside, met) = floor_met c s t pairing v l (eqb (side potentials) 0) (section potentials) (floor potentials) u p.under in
      let a = left pairing j in
      let b = right pairing j in
      crossed c.a c.b e.top l.top k x y (floor potentials) (l.entry a b) (e.entry a b) (cost e pairing) lower.shows met
      (near a b (successor_in c s a (left_successor c s t pairing v j inside)) (successor_in c t b (right_successor c s t pairing v j inside)))
      (entry_le_cost e pairing j inside) upper.shows

  pub lawful : Lawful (means c)
  lawful = record {
    sections_least = sound.n_least;
    sections_most = sound.n_most;
    numerator_least = sound.a_least;
    discounted = sound.a_most;
    denominator_most = sound.b_most;
    longest_most = omega arith;
    weighs = weighs;
    unjudged = λ side d s t ws h. (Unjudged, outside_first side d s t ws (is_unjudged (means c) c.band (λ s t. refl) s t h), refl);
    words = λ d s t ws v. pairing_words s t ws v;
    short = short;
    self_judged = λ s l. parted_self c.band s;
    self_paired = self_paired;
    closed = closed;
    monotone = monotone;
    cross = λ l e s t potentials pairing x y k _ lower upper near. cross l e s t potentials pairing x y k lower upper near;
  }
