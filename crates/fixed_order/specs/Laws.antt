-- A chart of a fixed order keeps the laws of a kind.
use Rattle.std.proofs.Common.{◌≡◌, ℕ, ◌+◌, ◌*◌, ◌<◌, ◌≤◌, List, [], ◌∷◌, length, ℤ, Some, None, Err, Option, refl, sym, ap, ◌∙◌, le_trans, mul-le-mul_left, mul-le-mul_right, arith}
use Rattle.std.proofs.lemmas.Bool.{not-false, eqb-true, eq-eqb}
use Rattle.std.specs.List.{AllByRecursion}
use Rattle.finite.specs.Search.{given}
use Rattle.finite.proofs.Search.{first_of_none, given_none}
use Rattle.chart.specs.declared.side.Side.{Side}
use Rattle.chart.specs.declared.side.Side.TheVariants.{Upper, Lower}
use Rattle.chart.specs.Distances.{Distances}
use Rattle.chart.specs.Weighing.{Weaker, Weighs, answer}
use Rattle.chart.specs.Meaning.{Shown, Word}
use Rattle.chart.specs.Laws.{Tighter, Within, Lawful}
use Rattle.chart.specs.Bands.{Judges, unjudged}
use Rattle.chart.proofs.Bands.{parted_self, is_unjudged, judges_from, judges_to}
use Rattle.chart.proofs.Claims.{least_shown, greatest_shown}
use Rattle.fixed_order.specs.declared.fault.Fault.{Fault}
use Rattle.fixed_order.specs.declared.fault.Fault.TheVariants.{Unjudged, Words}
use Rattle.fixed_order.specs.Order.{Order, Sound}
use Rattle.fixed_order.specs.Meaning.{Valid, Shows, following, strongest, fault, means}

module _ (c : Order) (sound : Sound c) where
  valid_from : (s t : ℕ) (ws : List ℤ) → fault c s t ws ≡ None → Valid c s t ws
  valid_from s t ws e =
      let p0 = first_of_none (given (unjudged c.n c.band s t) Unjudged) _ e in
      let p1 = first_of_none (given _ (Words (length ws))) _ p0.1 in
      record { judged = judges_from c.n c.band s t (given_none _ _ p0.0); wordless = eqb-true _ _ (not-false _ (given_none _ _ p1.0)) }

  valid_to : (s t : ℕ) (ws : List ℤ) → Valid c s t ws → fault c s t ws ≡ None
  valid_to s t ws v = simp (judges_to c.n c.band s t v.judged, eq-eqb (length ws) 0 v.wordless)

  weighs : (side : Side) (d : Distances) (s t : ℕ) (ws : List ℤ) → Weighs side (Valid c s t ws) (Shows c side (following c d s t)) (answer (fault c s t ws) (strongest c side (following c d s t)))
  weighs side d s t ws = by side (fault c s t ws) refl where
    by : (side : Side) (o : Option Fault) → fault c s t ws ≡ o → Weighs side (Valid c s t ws) (Shows c side (following c d s t)) (answer o (strongest c side (following c d s t)))
    by side (Some f) e = λ v. cc (sym (valid_to s t ws v) ∙ e)
    by Upper None e = (valid_from s t ws e, least_shown c.a c.b (omega (arith, sound.a_most)) (following c d s t))
    by Lower None e = (valid_from s t ws e, greatest_shown c.a c.b (omega (arith, sound.a_most)) (following c d s t))

  wordless : (ws : List ℤ) → length ws ≡ 0 → AllByRecursion Word ws
  wordless [] e = tt
  wordless (w ∷ ws) e = absurd (cc)

  closed : (side : Side) (d : Distances) (s t : ℕ) (ws : List ℤ) (x y : ℕ) → Shown (means c) side d s t ws x → Weaker side x y → Shown (means c) side d s t ws y
  closed Upper d s t ws x y h l = record { valid = h.valid; shows = le_trans h.shows (mul-le-mul_left c.b l) }
  closed Lower d s t ws x y h l = record { valid = h.valid; shows = le_trans (mul-le-mul_left c.b l) h.shows }

  monotone : (side : Side) (d e : Distances) (s t : ℕ) (ws : List ℤ) (x : ℕ) → Tighter side c.n e d → Shown (means c) side d s t ws x → Shown (means c) side e s t ws x
  monotone side d e s t ws x tight h = by side tight h where
    by : (side : Side) → Tighter side c.n e d → Shown (means c) side d s t ws x → Shown (means c) side e s t ws x
    by Upper tight h = record { valid = h.valid; shows = le_trans (mul-le-mul_left c.a (tight.entries _ _ (sound.next_in s h.valid.judged.first_in) (sound.next_in t h.valid.judged.second_in))) h.shows }
    by Lower tight h = record { valid = h.valid; shows = le_trans h.shows (mul-le-mul_left c.a (tight.entries _ _ (sound.next_in s h.valid.judged.first_in) (sound.next_in t h.valid.judged.second_in))) }

  cross : (l e : Distances) (s t : ℕ) (potentials pairing : List ℤ) (x y k : ℕ)
      → Shown (means c) Lower l s t potentials x → Shown (means c) Upper e s t pairing y → Within c.n l e k → c.b * (x * e.top) ≤ c.b * (y * l.top) + c.a * k
  cross l e s t potentials pairing x y k lower upper near =
      let under = near _ _ (sound.next_in s lower.valid.judged.first_in) (sound.next_in t lower.valid.judged.second_in) in
      omega (arith, mul-le-mul_right e.top lower.shows, mul-le-mul_left c.a under, mul-le-mul_right l.top upper.shows)

  pub lawful : Lawful (means c)
  lawful = record {
    sections_least = sound.n_least;
    sections_most = sound.n_most;
    numerator_least = sound.a_least;
    discounted = sound.a_most;
    denominator_most = sound.b_most;
    longest_most = omega arith;
    weighs = weighs;
    unjudged = λ side d s t ws h. (Unjudged, simp (is_unjudged (means c) c.band (λ s t. refl) s t h), refl);
    words = λ d s t ws v. wordless ws v.wordless;
    short = λ side d s t ws v. omega (arith, v.wordless);
    self_judged = λ s l. parted_self c.band s;
    self_paired = λ s l. (
      [],
      tt,
      λ d zeros. record {
        valid = record { judged = record { first_in = l; second_in = l; alike = refl }; wordless = refl };
        shows = omega (arith, ap (λ z. c.a * z) (zeros (c.next s) (sound.next_in s l)));
      },
    );
    closed = closed;
    monotone = monotone;
    cross = λ l e s t potentials pairing x y k _ lower upper near. cross l e s t potentials pairing x y k lower upper near;
  }
