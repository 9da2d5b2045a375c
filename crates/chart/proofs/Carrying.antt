-- A chart keeps the laws as a value of a type that has several kinds.
use Rattle.std.proofs.Common.{◌≡◌, ℕ, List, ℤ, Ok, Err, Result, ap, ◌∙◌}
use Rattle.chart.specs.declared.side.Side.{Side}
use Rattle.chart.specs.declared.side.Side.TheVariants.{Upper, Lower}
use Rattle.chart.specs.Distances.{Distances}
use Rattle.chart.specs.Weighing.{Weighs, fault_as}
use Rattle.chart.specs.Meaning.{Meaning, Shown}
use Rattle.chart.specs.Laws.{Lawful}
use Rattle.chart.specs.Carried.{carried}

module _ {F G : Type 0} (wrap : F → G) (numbers : G → List ℕ) (m : Meaning F) where
  abbrev there : Meaning G
  there = carried wrap numbers m

  module _ (side : Side) (d : Distances) (s t : ℕ) (ws : List ℤ) where
    weighs : (r : Result ℕ F) → Weighs side (m.valid side d s t ws) (m.shows side d s t ws) r → Weighs side (m.valid side d s t ws) (m.shows side d s t ws) (fault_as wrap r)
    weighs (Ok c) h = h
    weighs (Err f) h = h

    to : (c : ℕ) → Shown m side d s t ws c → Shown there side d s t ws c
    to c h = record { valid = h.valid; shows = h.shows }

    from : (c : ℕ) → Shown there side d s t ws c → Shown m side d s t ws c
    from c h = record { valid = h.valid; shows = h.shows }

  pub carried_lawful : ((f : F) → numbers (wrap f) ≡ m.numbers f) → Lawful m → Lawful there
  carried_lawful kept lawful = record {
    sections_least = lawful.sections_least;
    sections_most = lawful.sections_most;
    numerator_least = lawful.numerator_least;
    discounted = lawful.discounted;
    denominator_most = lawful.denominator_most;
    longest_most = lawful.longest_most;
    weighs = λ side d s t ws. weighs side d s t ws (m.weigh side d s t ws) (lawful.weighs side d s t ws);
    unjudged = λ side d s t ws out.
        let (f, is, hundred) = lawful.unjudged side d s t ws (λ j. out (record { first_in = j.first_in; second_in = j.second_in; together = j.together })) in
        (wrap f, ap (fault_as wrap) is, kept f ∙ hundred);
    words = lawful.words;
    short = lawful.short;
    self_judged = lawful.self_judged;
    self_paired = λ s l. let (ws, words, shown) = lawful.self_paired s l in (ws, words, λ d zeros. to Upper d s s ws 0 (shown d zeros));
    closed = λ side d s t ws c e h weaker. to side d s t ws e (lawful.closed side d s t ws c e (from side d s t ws c h) weaker);
    monotone = λ side d e s t ws c tight h. to side e s t ws c (lawful.monotone side d e s t ws c tight (from side d s t ws c h));
    cross = λ l e s t potentials pairing x y k some lower upper near.
        lawful.cross l e s t potentials pairing x y k some (from Lower l s t potentials x lower) (from Upper e s t pairing y upper) near;
  }
