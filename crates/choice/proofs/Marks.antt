-- The sections that a mask marks.
use Rattle.std.proofs.Common.{◌≡◌, ℕ, zero, suc, ◌+◌, ◌-◌, ◌*◌, ◌/◌, ◌^◌, ◌%◌, ◌<◌, ◌≤◌, Bool, true, false, cond, not, ◌≢◌, ◌&&◌, eqb, is_some, List, [], ◌∷◌, get_or, ℤ, pos, negsuc, Some, None, Option, MatchOption, bit_and, bit_or, w32, min, refl, ap, sym, ◌∙◌, ⊎_elim, add-one, arith}
use Rattle.std.specs.Int.{bit_at, bit_not, trailing_zeros}
use Rattle.std.proofs.lemmas.Bool.{cases_eq, cases_lt, eq-eqb, ne_eqb, lt-ltb, le-ltb}
use Rattle.std.proofs.lemmas.Nat.{and_le_l, and_le_r}
use Rattle.std.proofs.lemmas.Nat.Bits.{bit_at-zero, bit_at-lt, bit_at_and, bit_at_not, bit_at-suc, bit_at_lowest, bit_at-trailing_zeros, bit_at_set_same, bit_at_set_other, bit_at_above}
use Rattle.finite.specs.Search.{least, given, first_of}
use Rattle.finite.proofs.Search.{least_at, least_same, least_none, least_none_at, least_found}
use Rattle.transitions.specs.System.{successor}
use Rattle.transitions.specs.Words.{names}
use Rattle.transitions.specs.Pairing.{paired}
use Rattle.choice.specs.declared.charts.Choice.{Choice}
use Rattle.choice.specs.View.{marks, names_marked, system}

-- a mask marks the sections whose bit is 1
same_mark : {a b : ℕ} → a ≡ b → eqb a 1 ≡ eqb b 1
same_mark e = ap (λ bit. eqb bit 1) e

-- a mask below 2 ^ n marks no section from n on
marks_none : (mask n u : ℕ) → mask < 2 ^ n → n ≤ u → marks mask u ≡ false
marks_none mask n u small from = same_mark (bit_at_above mask n u small from)

pub names_none : (mask u : ℕ) (z : ℤ) → mask < 2 ^ 32 → 32 ≤ u → z ≡ pos u → names_marked mask z ≡ false
names_none mask u z small from e = rw e (marks_none mask 32 u small from)

-- where no number from n on passes, the least below n is the least below m
least_wider : (n m : ℕ) (p : ℕ → Bool) → n ≤ m → ((u : ℕ) → n ≤ u → p u ≡ false) → least n p ≡ least m p
least_wider n m p more none = by (least n p) refl where
  by : (o : Option ℕ) → least n p ≡ o → o ≡ least m p
  by (Some i) e = let l = least_at n p i e in sym (least_found m p i (omega (arith, l.within)) l.passes l.before)
  by None e = sym (least_none m p (λ u l. ⊎_elim (least_none_at n p e u) (none u) (cases_lt u n)))

-- the mask of a section of the chart
module _ (w : Choice) (s mask : ℕ) (mask_is : mask ≡ get_or w.masks s 0) where
  outside : (u : ℕ) → w.n ≤ u → marks mask u ≡ false
  outside u from = rw mask_is (marks_none _ w.n u (w.within s) from)

  successor_is : (u : ℕ) → successor (system w) s u ≡ marks mask u
  successor_is u = ⊎_elim (λ l. rw (lt-ltb u w.n l, mask_is) refl) (λ from. rw (le-ltb u w.n from) (sym (outside u from))) (cases_lt u w.n)

  names_is : (z : ℤ) → names (system w) s z ≡ names_marked mask z
  names_is (pos u) = successor_is u
  names_is (negsuc u) = refl

  -- the section that a word names is a successor
  pub named_is : (z : ℤ) (o : Option ℕ) → MatchOption o (names_marked mask z ≡ false) (λ u. (z ≡ pos u) × (u < 32) × (marks mask u ≡ true))
      → MatchOption o (names (system w) s z ≡ false) (λ u. (z ≡ pos u) × (successor (system w) s u ≡ true))
  named_is z (Some u) h = (h.0, successor_is u ∙ h.2)
  named_is z None h = names_is z ∙ h

  -- the first successor in no pair is the first section that the mask marks and that of the paired does not
  pub same_search : (ws : List ℤ) (side : List ℤ → ℕ → ℕ) (got : ℕ) → ((u : ℕ) → u < 32 → marks got u ≡ paired side ws u)
      → least w.n (λ u. successor (system w) s u && not (paired side ws u)) ≡ least 32 (λ u. marks mask u && not (marks got u))
  same_search ws side got h =
      least_same w.n _ (λ u. marks mask u && not (marks got u)) (λ u l. rw (successor_is u, h u (omega (arith, w.n_most))) refl)
      ∙ least_wider w.n 32 _ w.n_most (λ u from. rw (outside u from) refl)

  -- a search among the successors is one among the sections that the mask marks
  pub same_test : (p : ℕ → Bool) → least w.n (λ y. successor (system w) s y && p y) ≡ least 32 (λ y. marks mask y && p y)
  same_test p =
      least_same w.n _ (λ y. marks mask y && p y) (λ y l. rw (successor_is y) refl)
      ∙ least_wider w.n 32 _ w.n_most (λ y from. rw (outside y from) refl)

-- of two bits, the first is 1 and the second is not
left_bit : (x y : ℕ) → x < 2 → y < 2 → eqb (min x (1 - y)) 1 ≡ (eqb x 1 && not (eqb y 1))
left_bit zero y k l = let e : min 0 (1 - y) ≡ 0 = omega arith in rw e refl
left_bit (suc zero) zero k l = refl
left_bit (suc zero) (suc zero) k l = refl
left_bit (suc zero) (suc (suc y)) k l = absurd (omega arith)
left_bit (suc (suc x)) y k l = absurd (omega arith)

module _ (mask paired : ℕ) (paired_fits : paired < 2 ^ 32) where
  abbrev unpaired : ℕ
  unpaired = bit_and mask (bit_not w32 paired)

  left_is : (u : ℕ) → u < 32 → (marks mask u && not (marks paired u)) ≡ marks unpaired u
  left_is u l =
      let bits : bit_at unpaired u ≡ min (bit_at mask u) (1 - bit_at paired u) = bit_at_and mask _ u ∙ ap (min (bit_at mask u)) (bit_at_not w32 paired u paired_fits l) in
      sym (same_mark bits ∙ left_bit (bit_at mask u) (bit_at paired u) (bit_at-lt mask u) (bit_at-lt paired u))

  pub none_unpaired : unpaired ≡ 0 → None ≡ least 32 (λ u. marks mask u && not (marks paired u))
  none_unpaired e = sym (least_none 32 _ (λ u l. left_is u l ∙ same_mark (ap (λ m. bit_at m u) e ∙ bit_at-zero u)))

  pub lowest_unpaired : mask < 2 ^ 32 → 0 < unpaired → Some (trailing_zeros w32 unpaired) ≡ least 32 (λ u. marks mask u && not (marks paired u))
  lowest_unpaired mask_fits some =
      let h = bit_at-trailing_zeros w32 unpaired some (omega (arith, and_le_l mask (bit_not w32 paired))) in
      sym (least_found 32 _ _ h.0 (left_is _ h.0 ∙ same_mark h.1) (λ k l. left_is k (omega (arith, h.0)) ∙ same_mark (h.2 k l)))

-- Of a number whose lowest 1 is at y, less one: there it has 0, and above the same bits.
record LessOne (y r : ℕ) : Type 0 where
  off : bit_at (r - 1) y ≡ 0
  above : (x : ℕ) → y < x → bit_at (r - 1) x ≡ bit_at r x

less_one_odd : (r : ℕ) → r % 2 ≡ 1 → LessOne 0 r
less_one_odd r odd = record { off = bit_at_lowest (r - 1) ∙ omega (arith, odd); above = higher } where
  half : (r - 1) / 2 ≡ r / 2
  half = omega (arith, odd)

  higher : (x : ℕ) → 0 < x → bit_at (r - 1) x ≡ bit_at r x
  higher zero l = absurd (omega arith)
  higher (suc k) l = bit_at-suc (r - 1) k ∙ ap (λ m. bit_at m k) half ∙ sym (bit_at-suc r k)

less_one_even : (y r : ℕ) → r % 2 ≡ 0 → LessOne y (r / 2) → LessOne (suc y) r
less_one_even y r even halved = record { off = bit_at-suc (r - 1) y ∙ ap (λ m. bit_at m y) half ∙ halved.off; above = higher } where
  half : (r - 1) / 2 ≡ r / 2 - 1
  half = omega (arith, even)

  higher : (x : ℕ) → suc y < x → bit_at (r - 1) x ≡ bit_at r x
  higher zero l = absurd (omega arith)
  higher (suc k) l = bit_at-suc (r - 1) k ∙ ap (λ m. bit_at m k) half ∙ halved.above k (omega arith) ∙ sym (bit_at-suc r k)

less_one : (y r : ℕ) → bit_at r y ≡ 1 → ((x : ℕ) → x < y → bit_at r x ≡ 0) → LessOne y r
less_one zero r one below = less_one_odd r (sym (bit_at_lowest r) ∙ one)
less_one (suc y) r one below =
    less_one_even y r (sym (bit_at_lowest r) ∙ below 0 (omega arith)) (less_one y (r / 2) (sym (bit_at-suc r y) ∙ one) (λ x l. sym (bit_at-suc r x) ∙ below (suc x) (omega arith)))

-- Of the sections that a mask marks, those in rest are still to be tested, and of the others none passes.
module _ (mask : ℕ) (p : ℕ → Bool) where
  abbrev pub Left : ℕ → Type 0
  Left rest = (rest < 2 ^ 32) × ((x : ℕ) → marks rest x ≡ true → marks mask x ≡ true) × ((x : ℕ) → x < 32 → marks mask x ≡ true → marks rest x ≡ false → p x ≡ false)

  pub all_left : mask < 2 ^ 32 → Left mask
  all_left fits = (fits, λ x m. m, λ x l m r. cc)

  clear : (b : Bool) (x : ℕ) → (b ≡ true → p x ≡ false) → (b && p x) ≡ false
  clear true x h = h refl
  clear false x h = refl

  pub none_left : Left 0 → None ≡ least 32 (λ x. marks mask x && p x)
  none_left left = sym (least_none 32 _ (λ x l. clear (marks mask x) x (λ m. left.2 x l m (same_mark (bit_at-zero x)))))

  module _ (rest : ℕ) (left : Left rest) (some : 0 < rest) where
    abbrev y : ℕ
    y = trailing_zeros w32 rest

    lowest : (y < 32) × (bit_at rest y ≡ 1) × ((x : ℕ) → x < y → bit_at rest x ≡ 0)
    lowest = bit_at-trailing_zeros w32 rest some left.0

    abbrev without : ℕ
    without = bit_and rest (rest - 1)

    bit_without : (x : ℕ) → bit_at without x ≡ min (bit_at rest x) (bit_at (rest - 1) x)
    bit_without x = bit_at_and rest (rest - 1) x

    pub first_left : p y ≡ true → Some y ≡ least 32 (λ x. marks mask x && p x)
    first_left passes =
        let marked = left.1 y (same_mark lowest.1) in
        sym (least_found 32 _ y lowest.0 (rw (marked, passes) refl) (λ x l. clear (marks mask x) x (λ m. left.2 x (omega (arith, l, lowest.0)) m (same_mark (lowest.2 x l)))))

    pub smaller : without < rest
    smaller = omega (arith, and_le_r rest (rest - 1))

    low : LessOne y rest
    low = less_one y rest lowest.1 lowest.2

    cleared : marks without y ≡ false
    cleared =
        let none : bit_at without y ≡ 0 = omega (arith, bit_without y, low.off) in same_mark none

    kept : (x : ℕ) → x ≢ y → bit_at without x ≡ bit_at rest x
    kept x apart =
        ⊎_elim (λ l. omega (arith, bit_without x, lowest.2 x l))
        (λ from. let l : y < x = omega (arith, apart) in omega (arith, bit_without x, low.above x l)) (cases_lt x y)

    pub next_left : p y ≡ false → Left without
    next_left fails = (
      omega (arith, smaller, left.0),
      λ x m. ⊎_elim (λ e. cc (m, cleared, e)) (λ d. left.1 x (sym (same_mark (kept x d)) ∙ m)) (cases_eq x y),
      λ x l m r. ⊎_elim (λ e. rw e fails) (λ d. left.2 x l m (sym (same_mark (kept x d)) ∙ r)) (cases_eq x y),
    )

-- one place more is searched
some_more : (j : ℕ) (p : ℕ → Bool) → is_some (least (suc j) p) ≡ cond (p j) true (is_some (least j p))
some_more j p = of (least j p) (p j) where
  of : (o : Option ℕ) (b : Bool) → is_some (first_of (o ∷ given b j ∷ [])) ≡ cond b true (is_some o)
  of (Some i) true = refl
  of (Some i) false = refl
  of None true = refl
  of None false = refl

-- with a section more the mask marks it, and what it marked
set_more : (mask u x : ℕ) → u < 32 → marks (bit_or mask (1 * 2 ^ u % 2 ^ 32)) x ≡ cond (eqb u x) true (marks mask x)
set_more mask u x inside =
    let more = bit_or mask (1 * 2 ^ u % 2 ^ 32) in
    ⊎_elim
    (λ same. rw (eq-eqb u x (sym same)) (same_mark (ap (bit_at more) same ∙ bit_at_set_same w32 mask u inside)))
    (λ apart. rw (ne_eqb u x (λ e. apart (sym e))) (same_mark (bit_at_set_other w32 mask u inside x apart)))
    (cases_eq x u)

-- after j pairs the mask marks the sections at the places below j
abbrev pub Marked : ℕ → (ℕ → ℕ) → ℕ → Type 0
Marked mask place j = (x : ℕ) → x < 32 → marks mask x ≡ is_some (least j (λ i. eqb (place i) x))

pub marked_none : (place : ℕ → ℕ) → Marked 0 place 0
marked_none place x l = same_mark (bit_at-zero x)

pub marked_more : (mask : ℕ) (place : ℕ → ℕ) (j : ℕ) → Marked mask place j → place j < 32 → Marked (bit_or mask (1 * 2 ^ place j % 2 ^ 32)) place (j + 1)
marked_more mask place j m inside x k = rw add-one (set_more mask (place j) x inside ∙ ap (λ b. cond (eqb (place j) x) true b) (m x k) ∙ sym (some_more j (λ i. eqb (place i) x)))
