-- Two sittings that fit keep the laws.
use Rattle.std.proofs.Common.{◌≡◌, ℕ, zero, suc, ◌+◌, ◌*◌, ◌<◌, ◌≤◌, max, Bool, true, false, cond, leb, leb-true, le-leb, List, [], ◌∷◌, ◌++◌, length, take, drop, length-take, length-drop, length-append, take-append-drop, ℤ, pos, negsuc, Some, None, Ok, Err, Option, Result, refl, sym, subst, arith}
use Rattle.std.proofs.Math.Seq.{take-append_seam, drop-append_seam}
use Rattle.std.proofs.lemmas.Bool.{and_from}
use Rattle.std.specs.List.{AllByRecursion}
use Rattle.chart.specs.declared.side.Side.{Side}
use Rattle.chart.specs.declared.side.Side.TheVariants.{Upper, Lower}
use Rattle.chart.specs.Distances.{Distances}
use Rattle.chart.specs.Weighing.{Weaker, Weighs, fault_as}
use Rattle.chart.specs.Meaning.{Meaning, Judged, Shown, Word}
use Rattle.chart.specs.Laws.{Lawful, Tighter, Within}
use Rattle.joint.specs.declared.fault.Fault.{Fault}
use Rattle.joint.specs.declared.fault.Fault.TheVariants.{Unjudged, First, Second}
use Rattle.joint.specs.Splitting.{split, Addressed, to_first, to_second, to_neither, addressed}
use Rattle.joint.specs.Meaning.{larger, judged, ValidInBoth, ShownByBoth, pairing, ValidInOne, ShownByOne, potentials, Valid, Shows, weighed, joined}
use Rattle.joint.proofs.Judging.{unjudged_in_one, self_judged}

all_appended : {X : Type 0} (P : X → Type 0) (xs ys : List X) → AllByRecursion P xs → AllByRecursion P ys → AllByRecursion P (xs ++ ys)
all_appended P [] ys a b = b
all_appended P (x ∷ xs) ys a b = (a.0, all_appended P xs ys a.1 b)

module _ {P Q : Type 0} (m : Meaning P) (o : Meaning Q) (lm : Lawful m) (lo : Lawful o) where
  larger_weighs : (d : Distances) (s t : ℕ) (x y : List ℤ) (r : Result ℕ P) (q : Result ℕ Q)
      → Weighs Upper (m.valid Upper d s t x) (m.shows Upper d s t x) r → Weighs Upper (o.valid Upper d s t y) (o.shows Upper d s t y) q
      → Weighs Upper ((true ≡ true) × (m.valid Upper d s t x × o.valid Upper d s t y)) (λ c. m.shows Upper d s t x c × o.shows Upper d s t y c) (larger r q)
  larger_weighs d s t x y (Ok u) (Ok v) (valid, best) (valid', best') = (
    (refl, (valid, valid')),
    record {
      shown = ((lm.closed Upper d s t x u (max u v) (record { valid = valid; shows = best.shown }) (omega arith)).shows, (lo.closed Upper d s t y v (max u v) (record { valid = valid'; shows = best'.shown }) (omega arith)).shows);
      others = λ c h. let p = best.others c h.0 in let q = best'.others c h.1 in omega arith;
    },
  )
  larger_weighs d s t x y (Ok u) (Err f) h not_valid = λ v. not_valid v.1.1
  larger_weighs d s t x y (Err f) q not_valid h = λ v. not_valid v.1.0

  pairing_weighs : (d : Distances) (s t : ℕ) (judged : Bool) (words : Option (List ℤ × List ℤ))
      → Weighs Upper ((judged ≡ true) × ValidInBoth m o d s t words) (λ c. ShownByBoth m o d s t c words) (cond judged (pairing m o d s t words) (Err Unjudged))
  pairing_weighs d s t false words = λ v. cc v.0
  pairing_weighs d s t true None = λ v. v.1
  pairing_weighs d s t true (Some (x, y)) = larger_weighs d s t x y (m.weigh Upper d s t x) (o.weigh Upper d s t y) (lm.weighs Upper d s t x) (lo.weighs Upper d s t y)

  one_weighs : {R : Type 0} (wrap : R → Fault P Q) (valid : Type 0) (shows : ℕ → Type 0) (r : Result ℕ R) → Weighs Lower valid shows r → Weighs {F = Fault P Q} Lower ((true ≡ true) × valid) shows (fault_as wrap r)
  one_weighs wrap valid shows (Ok c) (v, best) = ((refl, v), best)
  one_weighs wrap valid shows (Err f) not_valid = λ v. not_valid v.1

  potentials_weigh : (d : Distances) (s t : ℕ) (judged : Bool) (words : Addressed)
      → Weighs Lower ((judged ≡ true) × ValidInOne m o d s t words) (λ c. ShownByOne m o d s t c words) (cond judged (potentials m o d s t words) (Err Unjudged))
  potentials_weigh d s t false words = λ v. cc v.0
  potentials_weigh d s t true (to_first ws) = one_weighs First _ _ (m.weigh Lower d s t ws) (lm.weighs Lower d s t ws)
  potentials_weigh d s t true (to_second ws) = one_weighs Second _ _ (o.weigh Lower d s t ws) (lo.weighs Lower d s t ws)
  potentials_weigh d s t true to_neither = λ v. v.1

  weighs : (side : Side) (d : Distances) (s t : ℕ) (ws : List ℤ) → Weighs side (Valid m o side d s t ws) (Shows m o side d s t ws) (weighed m o side d s t ws)
  weighs Upper d s t ws = pairing_weighs d s t (judged m o s t) (split ws)
  weighs Lower d s t ws = potentials_weigh d s t (judged m o s t) (addressed ws)

  unjudged_weighed : (side : Side) (d : Distances) (s t : ℕ) (ws : List ℤ) → (Judged (joined m o) s t → ⊥) → weighed m o side d s t ws ≡ Err Unjudged
  unjudged_weighed Upper d s t ws h = rw (unjudged_in_one m o s t h) refl
  unjudged_weighed Lower d s t ws h = rw (unjudged_in_one m o s t h) refl

  split_short : (d : Distances) (s t k : ℕ) (ws : List ℤ) (b : Bool) → leb k (length ws) ≡ b → ValidInBoth m o d s t (cond b (Some (take k ws, drop k ws)) None) → (k ≤ m.longest) × (length ws ≤ m.longest + o.longest)
  split_short d s t k ws false e v = absurd v
  split_short d s t k ws true e v =
      let first = lm.short Upper d s t (take k ws) v.0 in
      let second = lo.short Upper d s t (drop k ws) v.1 in
      (omega (arith, length-take k ws, leb-true k (length ws) e), omega (arith, length-take k ws, length-drop k ws, leb-true k (length ws) e))

  short : (side : Side) (d : Distances) (s t : ℕ) (ws : List ℤ) → Valid m o side d s t ws → length ws ≤ m.longest + o.longest + 1
  short Upper d s t [] v = omega arith
  short Upper d s t (negsuc k ∷ ws) v = absurd v.1
  short Upper d s t (pos k ∷ ws) v = let h = (split_short d s t k ws (leb k (length ws)) refl v.1).1 in omega arith
  short Lower d s t [] v = omega arith
  short Lower d s t (negsuc k ∷ ws) v = absurd v.1
  short Lower d s t (pos zero ∷ ws) v = let h = lm.short Lower d s t ws v.1 in omega arith
  short Lower d s t (pos (suc zero) ∷ ws) v = let h = lo.short Lower d s t ws v.1 in omega arith
  short Lower d s t (pos (suc (suc k)) ∷ ws) v = absurd v.1

  split_words : (d : Distances) (s t k : ℕ) (ws : List ℤ) (b : Bool) → ValidInBoth m o d s t (cond b (Some (take k ws, drop k ws)) None) → AllByRecursion Word ws
  split_words d s t k ws false v = absurd v
  split_words d s t k ws true v = subst (AllByRecursion Word) (take-append-drop k ws) (all_appended Word (take k ws) (drop k ws) (lm.words d s t (take k ws) v.0) (lo.words d s t (drop k ws) v.1))

  words : (d : Distances) (s t : ℕ) (ws : List ℤ) → Valid m o Upper d s t ws → AllByRecursion Word ws
  words d s t [] v = absurd v.1
  words d s t (negsuc k ∷ ws) v = absurd v.1
  words d s t (pos k ∷ ws) v =
      let h = (split_short d s t k ws (leb k (length ws)) refl v.1).0 in
      (omega (arith, h, lm.longest_most), split_words d s t k ws (leb k (length ws)) v.1)

  both_closed : (d : Distances) (s t c e : ℕ) (words : Option (List ℤ × List ℤ)) → ValidInBoth m o d s t words → ShownByBoth m o d s t c words → c ≤ e → ShownByBoth m o d s t e words
  both_closed d s t c e None v h le = h
  both_closed d s t c e (Some (x, y)) v h le =
      ((lm.closed Upper d s t x c e (record { valid = v.0; shows = h.0 }) le).shows, (lo.closed Upper d s t y c e (record { valid = v.1; shows = h.1 }) le).shows)

  one_closed : (d : Distances) (s t c e : ℕ) (words : Addressed) → ValidInOne m o d s t words → ShownByOne m o d s t c words → e ≤ c → ShownByOne m o d s t e words
  one_closed d s t c e (to_first ws) v h le = (lm.closed Lower d s t ws c e (record { valid = v; shows = h }) le).shows
  one_closed d s t c e (to_second ws) v h le = (lo.closed Lower d s t ws c e (record { valid = v; shows = h }) le).shows
  one_closed d s t c e to_neither v h le = h

  both_monotone : m.sections ≡ o.sections → (d e : Distances) (s t c : ℕ) (words : Option (List ℤ × List ℤ)) → Tighter Upper m.sections e d
      → ValidInBoth m o d s t words → ShownByBoth m o d s t c words → ValidInBoth m o e s t words × ShownByBoth m o e s t c words
  both_monotone same d e s t c None tighter v h = absurd v
  both_monotone same d e s t c (Some (x, y)) tighter v h =
      let first = lm.monotone Upper d e s t x c tighter (record { valid = v.0; shows = h.0 }) in
      let second = lo.monotone Upper d e s t y c (subst (λ n. Tighter Upper n e d) same tighter) (record { valid = v.1; shows = h.1 }) in
      ((first.valid, second.valid), (first.shows, second.shows))

  one_monotone : m.sections ≡ o.sections → (d e : Distances) (s t c : ℕ) (words : Addressed) → Tighter Lower m.sections e d
      → ValidInOne m o d s t words → ShownByOne m o d s t c words → ValidInOne m o e s t words × ShownByOne m o e s t c words
  one_monotone same d e s t c (to_first ws) tighter v h =
      let shown = lm.monotone Lower d e s t ws c tighter (record { valid = v; shows = h }) in (shown.valid, shown.shows)
  one_monotone same d e s t c (to_second ws) tighter v h =
      let shown = lo.monotone Lower d e s t ws c (subst (λ n. Tighter Lower n e d) same tighter) (record { valid = v; shows = h }) in (shown.valid, shown.shows)
  one_monotone same d e s t c to_neither tighter v h = absurd v

  crossed : m.sections ≡ o.sections → m.numerator ≡ o.numerator → m.denominator ≡ o.denominator
      → (l e : Distances) (s t : ℕ) (potentials : Addressed) (pairing : Option (List ℤ × List ℤ)) (x y k : ℕ) → 1 ≤ e.top
      → ValidInOne m o l s t potentials → ShownByOne m o l s t x potentials → ValidInBoth m o e s t pairing → ShownByBoth m o e s t y pairing
      → Within m.sections l e k
      → m.denominator * (x * e.top) ≤ m.denominator * (y * l.top) + m.numerator * k
  crossed same over under l e s t to_neither pairing x y k top v h v' h' within = absurd v
  crossed same over under l e s t (to_first p) None x y k top v h v' h' within = absurd v'
  crossed same over under l e s t (to_second p) None x y k top v h v' h' within = absurd v'
  crossed same over under l e s t (to_first p) (Some (a, b)) x y k top v h v' h' within =
      lm.cross l e s t p a x y k top (record { valid = v; shows = h }) (record { valid = v'.0; shows = h'.0 }) within
  crossed same over under l e s t (to_second p) (Some (a, b)) x y k top v h v' h' within =
      rw (over, under) (lo.cross l e s t p b x y k top (record { valid = v; shows = h }) (record { valid = v'.1; shows = h'.1 }) (subst (λ n. Within n l e k) same within))

  -- the pairings of a section with itself in both sittings, one after the other
  appended_split : (x y : List ℤ) → split (pos (length x) ∷ (x ++ y)) ≡ Some (x, y)
  appended_split x y = rw (le-leb (length x) (length (x ++ y)) (omega (arith, length-append x y)), take-append_seam x y, drop-append_seam x y) refl

  abbrev zeros : Distances
  zeros = record { top = 1; entry = λ s t. 0 }

  judged_with_itself : m.sections ≡ o.sections → (s : ℕ) → s < m.sections → judged m o s s ≡ true
  judged_with_itself same s l = let other = subst (λ n. s < n) same l in and_from _ _ (self_judged m s (lm.self_judged s l) l) (self_judged o s (lo.self_judged s other) other)

  self_paired : m.sections ≡ o.sections → (s : ℕ) → s < m.sections
      → (ws : List ℤ) × AllByRecursion Word ws × ((d : Distances) → ((x : ℕ) → x < m.sections → d.entry x x ≡ 0) → Shown (joined m o) Upper d s s ws 0)
  self_paired same s l =
      let (first, first_words, first_shown) = lm.self_paired s l in
      let (second, second_words, second_shown) = lo.self_paired s (subst (λ n. s < n) same l) in
      let seam = appended_split first second in
      let long = lm.short Upper zeros s s first (first_shown zeros (λ x h. refl)).valid in (
        pos (length first) ∷ (first ++ second),
        (omega (arith, long, lm.longest_most), all_appended Word first second first_words second_words),
        λ d zero.
            let a = first_shown d zero in
            let b = second_shown d (λ x h. zero x (subst (λ n. x < n) (sym same) h)) in
            record {
              valid = (judged_with_itself same s l, subst (ValidInBoth m o d s s) (sym seam) (a.valid, b.valid));
              shows = subst (ShownByBoth m o d s s 0) (sym seam) (a.shows, b.shows);
            },
      )

  closed : (side : Side) (d : Distances) (s t : ℕ) (ws : List ℤ) (c e : ℕ) → Shown (joined m o) side d s t ws c → Weaker side c e → Shown (joined m o) side d s t ws e
  closed Upper d s t ws c e h weaker = record { valid = h.valid; shows = both_closed d s t c e (split ws) h.valid.1 h.shows weaker }
  closed Lower d s t ws c e h weaker = record { valid = h.valid; shows = one_closed d s t c e (addressed ws) h.valid.1 h.shows weaker }

  monotone : m.sections ≡ o.sections → (side : Side) (d e : Distances) (s t : ℕ) (ws : List ℤ) (c : ℕ) → Tighter side m.sections e d → Shown (joined m o) side d s t ws c → Shown (joined m o) side e s t ws c
  monotone same Upper d e s t ws c tighter h =
      let (valid, shows) = both_monotone same d e s t c (split ws) tighter h.valid.1 h.shows in record { valid = (h.valid.0, valid); shows = shows }
  monotone same Lower d e s t ws c tighter h =
      let (valid, shows) = one_monotone same d e s t c (addressed ws) tighter h.valid.1 h.shows in record { valid = (h.valid.0, valid); shows = shows }

  pub joined_lawful : m.sections ≡ o.sections → m.numerator ≡ o.numerator → m.denominator ≡ o.denominator → m.longest + o.longest + 1 ≤ 2000000000 → Lawful (joined m o)
  joined_lawful same over under few = record {
    sections_least = lm.sections_least;
    sections_most = lm.sections_most;
    numerator_least = lm.numerator_least;
    discounted = lm.discounted;
    denominator_most = lm.denominator_most;
    longest_most = few;
    weighs = weighs;
    unjudged = λ side d s t ws h. (Unjudged, unjudged_weighed side d s t ws h, refl);
    words = words;
    short = short;
    self_judged = λ s l. rw (lm.self_judged s l, lo.self_judged s (subst (λ n. s < n) same l)) refl;
    self_paired = self_paired same;
    closed = closed;
    monotone = monotone same;
    cross = λ l e s t potentials pairing x y k top low high within. crossed same over under l e s t (addressed potentials) (split pairing) x y k top low.valid.1 low.shows high.valid.1 high.shows within;
  }
