-- A lawful chart means what it tells, and what it tells is lawful.
use Rattle.std.proofs.Common.{◌≡◌, ℕ, ◌↔◌, List, ℤ, Ok, Err, Result, IsOk, refl, ap, le_refl}
use Rattle.chart.specs.declared.side.Side.{Side}
use Rattle.chart.specs.declared.side.Side.TheVariants.{Upper, Lower}
use Rattle.chart.specs.Distances.{Distances}
use Rattle.chart.specs.Weighing.{Weaker, Weighs, fault_as}
use Rattle.chart.specs.Meaning.{Meaning, Shown}
use Rattle.chart.specs.Laws.{Lawful}
use Rattle.chart.specs.Same.{Same}
use Rattle.chart.specs.Told.{NoStronger, meaning_of, told_of}

weaker_itself : (side : Side) (c : ℕ) → Weaker side c c
weaker_itself Upper c = le_refl c
weaker_itself Lower c = le_refl c

module _ {F : Type 0} (m : Meaning F) where
  abbrev pub told : Meaning (List ℕ)
  told = meaning_of (told_of m)

module _ {F : Type 0} (m : Meaning F) (lawful : Lawful m) where
  module _ (side : Side) (d : Distances) (s t : ℕ) (ws : List ℤ) where
    weighs_told : (r : Result ℕ F) → Weighs side (IsOk (fault_as m.numbers r)) (NoStronger side (fault_as m.numbers r)) (fault_as m.numbers r)
    weighs_told (Ok c) = (refl, record { shown = weaker_itself side c; others = λ x weaker. weaker })
    weighs_told (Err f) = λ ok. absurd (cc)

    valid_by : (r : Result ℕ F) → Weighs side (m.valid side d s t ws) (m.shows side d s t ws) r → m.valid side d s t ws ↔ IsOk (fault_as m.numbers r)
    valid_by (Ok c) (valid, best) = (λ v. refl, λ ok. valid)
    valid_by (Err f) not_valid = (λ v. absurd (not_valid v), λ ok. absurd (cc))

    valid_told : m.valid side d s t ws ↔ (told m).valid side d s t ws
    valid_told = valid_by (m.weigh side d s t ws) (lawful.weighs side d s t ws)

    shown_by : (c : ℕ) (r : Result ℕ F) → Weighs side (m.valid side d s t ws) (m.shows side d s t ws) r
        → (Shown m side d s t ws c → IsOk (fault_as m.numbers r) × NoStronger side (fault_as m.numbers r) c) × (IsOk (fault_as m.numbers r) → NoStronger side (fault_as m.numbers r) c → Shown m side d s t ws c)
    shown_by c (Ok x) (valid, best) = (λ h. (refl, best.others c h.shows), λ ok weaker. lawful.closed side d s t ws x c (record { valid = valid; shows = best.shown }) weaker)
    shown_by c (Err f) not_valid = (λ h. absurd (not_valid h.valid), λ ok weaker. absurd (cc))

    to_told : (c : ℕ) → Shown m side d s t ws c → Shown (told m) side d s t ws c
    to_told c h = let (ok, weaker) = (shown_by c (m.weigh side d s t ws) (lawful.weighs side d s t ws)).0 h in record { valid = ok; shows = weaker }

    from_told : (c : ℕ) → Shown (told m) side d s t ws c → Shown m side d s t ws c
    from_told c h = (shown_by c (m.weigh side d s t ws) (lawful.weighs side d s t ws)).1 h.valid h.shows

  pub same_as_told : Same m (told m)
  same_as_told = record {
    sections = refl;
    numerator = refl;
    denominator = refl;
    apart = λ s t hs ht. refl;
    valid = λ side d s t ws range table j words. valid_told side d s t ws;
    shown = λ side d s t ws c range table j words. (to_told side d s t ws c, from_told side d s t ws c);
  }

  pub told_lawful : Lawful (told m)
  told_lawful = record {
    sections_least = lawful.sections_least;
    sections_most = lawful.sections_most;
    numerator_least = lawful.numerator_least;
    discounted = lawful.discounted;
    denominator_most = lawful.denominator_most;
    longest_most = lawful.longest_most;
    weighs = λ side d s t ws. weighs_told side d s t ws (m.weigh side d s t ws);
    unjudged = λ side d s t ws out.
        let (f, is, numbers) = lawful.unjudged side d s t ws (λ j. out (record { first_in = j.first_in; second_in = j.second_in; together = j.together })) in
        (m.numbers f, ap (fault_as m.numbers) is, numbers);
    words = λ d s t ws v. lawful.words d s t ws ((valid_told Upper d s t ws).1 v);
    short = λ side d s t ws v. lawful.short side d s t ws ((valid_told side d s t ws).1 v);
    self_judged = lawful.self_judged;
    self_paired = λ s l. let (ws, words, shown) = lawful.self_paired s l in (ws, words, λ d zeros. to_told Upper d s s ws 0 (shown d zeros));
    closed = λ side d s t ws c e h weaker. to_told side d s t ws e (lawful.closed side d s t ws c e (from_told side d s t ws c h) weaker);
    monotone = λ side d e s t ws c tight h. to_told side e s t ws c (lawful.monotone side d e s t ws c tight (from_told side d s t ws c h));
    cross = λ l e s t potentials pairing x y k some lower upper near.
        lawful.cross l e s t potentials pairing x y k some (from_told Lower l s t potentials x lower) (from_told Upper e s t pairing y upper) near;
  }
