-- Sitting 0 alone keeps the laws.
use Rattle.std.proofs.Common.{◌≡◌, ℕ, Bool, true, false, cond, List, ℤ, Ok, Err, Result, refl, subst}
use Rattle.chart.specs.declared.side.Side.{Side}
use Rattle.chart.specs.declared.side.Side.TheVariants.{Upper, Lower}
use Rattle.chart.specs.Distances.{Distances}
use Rattle.chart.specs.Weighing.{Weighs, fault_as}
use Rattle.chart.specs.Meaning.{Meaning, Shown}
use Rattle.chart.specs.Laws.{Lawful}
use Rattle.chart.specs.Starting.{judged_pair}
use Rattle.joint.specs.declared.fault.Fault.{Fault}
use Rattle.joint.specs.declared.fault.Fault.TheVariants.{Unjudged, First}
use Rattle.joint.specs.Meaning.{alone}
use Rattle.joint.proofs.Judging.{judged_from, unjudged_is_false}

module _ {P Q : Type 0} (m : Meaning P) (second : Q → List ℕ) (lawful : Lawful m) where
  shown_in : (side : Side) (d : Distances) (s t : ℕ) (ws : List ℤ) (c : ℕ) → Shown (alone m second) side d s t ws c → Shown m side d s t ws c
  shown_in side d s t ws c h = record { valid = h.valid; shows = h.shows }

  shown_of : (side : Side) (d : Distances) (s t : ℕ) (ws : List ℤ) (c : ℕ) → Shown m side d s t ws c → Shown (alone m second) side d s t ws c
  shown_of side d s t ws c h = record { valid = h.valid; shows = h.shows }

  answer_marked : (side : Side) (valid : Type 0) (shows : ℕ → Type 0) (r : Result ℕ P) → Weighs side valid shows r → Weighs {F = Fault P Q} side valid shows (fault_as First r)
  answer_marked side valid shows (Ok c) h = h
  answer_marked side valid shows (Err f) h = h

  weighs : (side : Side) (d : Distances) (s t : ℕ) (ws : List ℤ) → Weighs side (m.valid side d s t ws) (m.shows side d s t ws) ((alone m second).weigh side d s t ws)
  weighs side d s t ws = by (judged_pair m s t) refl where
    by : (judged : Bool) → judged_pair m s t ≡ judged → Weighs {F = Fault P Q} side (m.valid side d s t ws) (m.shows side d s t ws) (cond judged (fault_as First (m.weigh side d s t ws)) (Err Unjudged))
    by true e = answer_marked side _ _ (m.weigh side d s t ws) (lawful.weighs side d s t ws)
    by false e =
        let (f, is, numbers) = lawful.unjudged side d s t ws (λ j. cc (judged_from m s t j, e)) in
        subst (λ r. Weighs side (m.valid side d s t ws) (m.shows side d s t ws) r) is (lawful.weighs side d s t ws)

  pub alone_lawful : Lawful (alone m second)
  alone_lawful = record {
    sections_least = lawful.sections_least;
    sections_most = lawful.sections_most;
    numerator_least = lawful.numerator_least;
    discounted = lawful.discounted;
    denominator_most = lawful.denominator_most;
    longest_most = lawful.longest_most;
    weighs = weighs;
    unjudged = λ side d s t ws h. (Unjudged, rw (unjudged_is_false (alone m second) s t h) refl, refl);
    words = lawful.words;
    short = lawful.short;
    self_judged = lawful.self_judged;
    self_paired = λ s l. let (ws, words, shown) = lawful.self_paired s l in (ws, words, λ d zeros. shown_of Upper d s s ws 0 (shown d zeros));
    closed = λ side d s t ws c e h weaker. shown_of side d s t ws e (lawful.closed side d s t ws c e (shown_in side d s t ws c h) weaker);
    monotone = λ side d e s t ws c tighter h. shown_of side e s t ws c (lawful.monotone side d e s t ws c tighter (shown_in side d s t ws c h));
    cross = λ l e s t potentials pairing x y k top low high within. lawful.cross l e s t potentials pairing x y k top (shown_in Lower l s t potentials x low) (shown_in Upper e s t pairing y high) within;
  }
