-- Lists of triples: x i, y i, z i for each i whose amount z i is above 0. So every coupling in whole amounts is listed, cell by cell, by a pairing.
use Rattle.std.proofs.Common.{◌≡◌, ℕ, zero, suc, ◌+◌, ◌-◌, ◌*◌, ◌/◌, ◌%◌, ◌<◌, ◌≤◌, Bool, true, false, cond, eqb, ltb, List, [], ◌∷◌, ◌++◌, length, ℤ, pos, sym, refl, ap, ◌∙◌, ⊎_elim, le_refl, one-mul, mul-le-mul, arith}
use borrow.Author.Differences.{up, at_most_in}
use Rattle.std.proofs.lemmas.List.{get_or_append_left, get_or-append-add, length-append}
use Rattle.std.proofs.lemmas.Bool.{cases_lt, cond_both, ltb-true, ltb-false}
use Rattle.std.proofs.lemmas.List.Elements.{All-append, All-from_recursion, All-nil}
use Rattle.std.proofs.lemmas.Nat.{div-mul-add, mod-mul-add, div_below, mod_below}
use Rattle.std.proofs.lemmas.Bool.Decides.{nat_tests}
use Rattle.finite.specs.Sums.{sum}
use Rattle.finite.proofs.Sums.{sum_same, sum_none, sum_one, term_le_sum}
use Rattle.std.specs.List.{All}
use Rattle.chart.specs.Meaning.{Word}
use Rattle.chart.specs.Distances.{Distances}
use Rattle.chart.specs.Bands.{Judges}
use Rattle.chart.specs.Words.{word, Between}
use Rattle.chain.specs.Chain.{Chain, Sound}
use Rattle.chain.specs.Pairing.{left, right, amount, triples, cost, Pairing}
use Rattle.chain.specs.Coupling.{Coupling, total, WholeCouplingsArePairings}

-- the sum of f over the triples
abbrev pub over : (ℕ → ℕ → ℕ → ℕ) → List ℤ → ℕ
over f ws = sum (triples ws) (λ j. f (left ws j) (right ws j) (amount ws j))

-- one triple more
module _ (ws : List ℤ) (threes : length ws ≡ 3 * triples ws) (x y z : ℤ) where
  abbrev more : List ℤ
  more = ws ++ x ∷ y ∷ z ∷ []

  more_length : length more ≡ 3 * suc (triples ws)
  more_length = omega (arith, length-append ws (x ∷ y ∷ z ∷ []))

  more_before : (i : ℕ) → i < 3 * triples ws → word more i ≡ word ws i
  more_before i l = get_or_append_left ws (x ∷ y ∷ z ∷ []) (pos 0) i (omega arith)

  more_at : (k : ℕ) → word more (3 * triples ws + k) ≡ word (x ∷ y ∷ z ∷ []) k
  more_at k = ap (λ n. word more (n + k)) (sym threes) ∙ get_or-append-add ws (x ∷ y ∷ z ∷ []) k (pos 0)

  more_first : word more (3 * triples ws) ≡ x
  more_first = ap (word more) (omega arith) ∙ more_at 0

  more_over : (f : ℕ → ℕ → ℕ → ℕ) → over f more ≡ over f ws + f (up x) (up y) (up z)
  more_over f =
      let m = triples ws in
      let n : triples more ≡ suc m = omega (arith, more_length) in
      let last : f (left more m) (right more m) (amount more m) ≡ f (up x) (up y) (up z) = simp (more_first, more_at 1, more_at 2) in
      let rest : sum m (λ j. f (left more j) (right more j) (amount more j)) ≡ sum m (λ j. f (left ws j) (right ws j) (amount ws j))
      = sum_same m _ _ (λ j l. simp (more_before (3 * j) (omega arith), more_before (3 * j + 1) (omega arith), more_before (3 * j + 2) (omega arith))) in
      rw n (omega (arith, rest, last))

-- x i, y i, z i for each i below k where z i is above 0
abbrev pub listed : (x y z : ℕ → ℕ) → ℕ → List ℤ
listed x y z zero = []
listed x y z (suc k) = cond (ltb 0 (z k)) (listed x y z k ++ pos (x k) ∷ pos (y k) ∷ pos (z k) ∷ []) (listed x y z k)

-- what holds of the list below k
pub record Good (c : Chain) (x y z : ℕ → ℕ) (k : ℕ) (ws : List ℤ) : Type 0 where
  pub threes : length ws ≡ 3 * triples ws
  pub few : triples ws ≤ k
  pub over_is : (f : ℕ → ℕ → ℕ → ℕ) → over f ws ≡ sum k (λ i. cond (ltb 0 (z i)) (f (x i) (y i) (z i)) 0)
  pub each : (j : ℕ) → j < triples ws
      → Between (pos 0) (pos (c.n - 1)) (word ws (3 * j)) × (Between (pos 0) (pos (c.n - 1)) (word ws (3 * j + 1)) × Between (pos 1) (pos c.whole) (word ws (3 * j + 2)))
  pub words : All Word ws

-- the places are sections, and no amount is above what a row adds up to
module _ (c : Chain) (sound : Sound c) (x y z : ℕ → ℕ) (m : ℕ) (x-in : (i : ℕ) → i < m → x i < c.n) (y-in : (i : ℕ) → i < m → y i < c.n) (low : (i : ℕ) → i < m → z i ≤ c.whole) where
  -- where the amount is 0 the list stays
  good_keep : (k : ℕ) (ws : List ℤ) → Good c x y z k ws → z k ≡ 0 → Good c x y z (suc k) ws
  good_keep k ws g e = record {
    threes = g.threes;
    few = omega (arith, g.few);
    over_is = λ f. let before = g.over_is f in grind (arith, nat_tests);
    each = g.each;
    words = g.words;
  }

  -- a natural number is a word within its bounds
  between : (low high n : ℕ) → low ≤ n → n ≤ high → Between (pos low) (pos high) (pos n)
  between low high n h k = (at_most_in (pos low) (pos n) (omega arith), at_most_in (pos n) (pos high) (omega arith))

  -- where the amount is above 0 the list has one triple more
  good_more : (k : ℕ) (ws : List ℤ) → Good c x y z k ws → k < m → 0 < z k → Good c x y z (suc k) (ws ++ pos (x k) ∷ pos (y k) ∷ pos (z k) ∷ [])
  good_more k ws g l some =
      let long = more_length ws g.threes (pos (x k)) (pos (y k)) (pos (z k)) in
      let before = more_before ws g.threes (pos (x k)) (pos (y k)) (pos (z k)) in
      let at = more_at ws g.threes (pos (x k)) (pos (y k)) (pos (z k)) in
      let row = x-in k l in
      let column = y-in k l in
      record {
        threes = omega (arith, long);
        few = omega (arith, long, g.few);
        over_is = λ f. let before = g.over_is f in let last = more_over ws g.threes (pos (x k)) (pos (y k)) (pos (z k)) f in grind (arith, nat_tests);
        each = λ j lj. ⊎_elim
            (λ b. rw (before (3 * j) (omega arith), before (3 * j + 1) (omega arith), before (3 * j + 2) (omega arith)) (g.each j b))
            (λ b.
            let same : j ≡ triples ws = omega (arith, long) in
            rw (same, more_first ws g.threes (pos (x k)) (pos (y k)) (pos (z k)), at 1, at 2)
            (between 0 (c.n - 1) (x k) (omega arith) (omega arith), (between 0 (c.n - 1) (y k) (omega arith) (omega arith), between 1 c.whole (z k) some (low k l))))
            (cases_lt j (triples ws));
        words = All-append Word ws _ g.words
            (All-from_recursion Word (pos (x k) ∷ pos (y k) ∷ pos (z k) ∷ []) (omega (arith, row, sound.n_most), (omega (arith, column, sound.n_most), (omega (arith, low k l, sound.whole_most), tt))));
      }

  pub good : (k : ℕ) → k ≤ m → Good c x y z k (listed x y z k)
  good zero l = record { threes = refl; few = omega arith; over_is = λ f. refl; each = λ j l. absurd (omega arith); words = All-nil Word }
  good (suc k) l =
      let g = good k (omega arith) in
      cond_both (ltb 0 (z k)) _ (listed x y z k) (Good c x y z (suc k)) (λ e. good_more k (listed x y z k) g (omega arith) (ltb-true 0 (z k) e)) (λ e. good_keep k (listed x y z k) g (omega (arith, ltb-false 0 (z k) e)))

-- a sum, by its first n numbers and the m after them
sum_more : (n m : ℕ) (f : ℕ → ℕ) → sum (n + m) f ≡ sum n f + sum m (λ i. f (n + i))
sum_more n zero f =
    let e : n + 0 ≡ n = omega arith in
    rw e (omega arith)
sum_more n (suc m) f =
    let e : n + suc m ≡ suc (n + m) = omega arith in
    rw e (omega (arith, sum_more n m f))

-- a sum over the cells of a grid, row by row
sum_grid : (n m : ℕ) (f : ℕ → ℕ → ℕ) → sum (n * m) (λ i. f (i / m) (i % m)) ≡ sum n (λ u. sum m (f u))
sum_grid zero m f =
    let e : 0 * m ≡ 0 = omega arith in
    rw e
sum_grid (suc n) m f =
    let e : suc n * m ≡ n * m + m = omega arith in
    let last : sum m (λ v. f ((n * m + v) / m) ((n * m + v) % m)) ≡ sum m (f n) = sum_same m _ _ (λ v l. rw (div-mul-add n m v l, mod-mul-add n m v l)) in
    rw e (omega (arith, sum_more (n * m) m (λ i. f (i / m) (i % m)), sum_grid n m f, last))

-- what is 0 at 0 need not be added there
kept : (g : ℕ → ℕ) (a : ℕ) → g 0 ≡ 0 → cond (ltb 0 a) (g a) 0 ≡ g a
kept g zero e = sym e
kept g (suc a) e = grind (arith, nat_tests)

-- a test that the numbers share, before their sum
sum_where : (n : ℕ) (b : Bool) (f : ℕ → ℕ) → sum n (λ v. cond b (f v) 0) ≡ cond b (sum n f) 0
sum_where n true f = refl
sum_where n false f = sum_none n (λ _. 0) (λ i l. refl)

-- a coupling in whole amounts, of a pair that is judged
module _ (c : Chain) (sound : Sound c) (s t : ℕ) (k : Coupling c s t) (judged : Judges c.n c.band s t) (one : k.times ≡ 1) where
  -- its margins are the two rows
  row_sum : (u : ℕ) → u < c.n → sum c.n (λ v. k.amounts u v) ≡ c.part s u
  row_sum u l = k.first_margin u l ∙ ap (λ q. q * c.part s u) one ∙ one-mul (c.part s u)

  column_sum : (v : ℕ) → v < c.n → sum c.n (λ u. k.amounts u v) ≡ c.part t v
  column_sum v l = k.second_margin v l ∙ ap (λ q. q * c.part t v) one ∙ one-mul (c.part t v)

  -- no amount is above what a row adds up to
  amount_low : (u v : ℕ) → u < c.n → v < c.n → k.amounts u v ≤ c.whole
  amount_low u v lu lv = omega (arith, term_le_sum c.n (λ v. k.amounts u v) v lv, row_sum u lu, term_le_sum c.n (c.part s) u lu, sound.rows s judged.first_in)

  -- its cells, row by row
  abbrev cells : List ℤ
  cells = listed (λ i. i / c.n) (λ i. i % c.n) (λ i. k.amounts (i / c.n) (i % c.n)) (c.n * c.n)

  -- the list has each cell whose amount is above 0
  cells_good : Good c (λ i. i / c.n) (λ i. i % c.n) (λ i. k.amounts (i / c.n) (i % c.n)) (c.n * c.n) cells
  cells_good =
      let row : (i : ℕ) → i < c.n * c.n → i / c.n < c.n = λ i l. div_below i c.n c.n sound.n_least l in
      let column : (i : ℕ) → i < c.n * c.n → i % c.n < c.n = λ i l. mod_below i c.n sound.n_least in
      good c sound (λ i. i / c.n) (λ i. i % c.n) (λ i. k.amounts (i / c.n) (i % c.n)) (c.n * c.n) row column (λ i l. amount_low (i / c.n) (i % c.n) (row i l) (column i l)) (c.n * c.n) (le_refl (c.n * c.n))

  -- a sum over the triples is the sum over the matrix
  cells_over : (f : ℕ → ℕ → ℕ → ℕ) → ((u v : ℕ) → f u v 0 ≡ 0) → over f cells ≡ sum c.n (λ u. sum c.n (λ v. f u v (k.amounts u v)))
  cells_over f none =
      cells_good.over_is f
      ∙ sum_same (c.n * c.n) _ _ (λ i l. kept (f (i / c.n) (i % c.n)) (k.amounts (i / c.n) (i % c.n)) (none (i / c.n) (i % c.n)))
      ∙ sum_grid c.n c.n (λ u v. f u v (k.amounts u v))

  -- the first margin of the list is the row of s
  cells_rows : (x : ℕ) → x < c.n → over (λ u v a. cond (eqb u x) a 0) cells ≡ c.part s x
  cells_rows x l =
      cells_over (λ u v a. cond (eqb u x) a 0) (λ u v. grind (arith, nat_tests))
      ∙ sum_same c.n _ (λ u. cond (eqb x u) (sum c.n (λ v. k.amounts u v)) 0) (λ u h. sum_where c.n (eqb u x) (λ v. k.amounts u v) ∙ grind (arith, nat_tests))
      ∙ sum_one c.n (λ u. sum c.n (λ v. k.amounts u v)) x l
      ∙ row_sum x l

  -- the second margin of the list is the row of t
  cells_columns : (y : ℕ) → y < c.n → over (λ u v a. cond (eqb v y) a 0) cells ≡ c.part t y
  cells_columns y l =
      cells_over (λ u v a. cond (eqb v y) a 0) (λ u v. grind (arith, nat_tests))
      ∙ sum_same c.n _ _ (λ u h. sum_same c.n _ (λ v. cond (eqb y v) (k.amounts u v) 0) (λ v i. grind (arith, nat_tests)) ∙ sum_one c.n (λ v. k.amounts u v) y l)
      ∙ column_sum y l

  -- the cost of the list is the total of the coupling
  cells_cost : (d : Distances) → cost d cells ≡ total c k d
  cells_cost d = cells_over (λ u v a. a * d.entry u v) (λ u v. omega arith)

  -- there are at most 32 × 32 cells
  few_cells : triples cells ≤ 1024
  few_cells = omega (arith, cells_good.few, mul-le-mul sound.n_most sound.n_most)

  -- the list is a pairing
  cells_pairing : Pairing c s t cells
  cells_pairing =
      let g = cells_good in
      record {
        judged = judged;
        threes = omega (arith, g.threes);
        few = omega (arith, g.threes, few_cells);
        left_word = λ j l. (g.each j l).0;
        right_word = λ j l. (g.each j l).1.0;
        amount_word = λ j l. (g.each j l).1.1;
        left_margin = cells_rows;
        right_margin = cells_columns;
      }

-- the list of its cells is a pairing, with its total
pub couplings_listed : (c : Chain) → Sound c → WholeCouplingsArePairings c
couplings_listed c sound s t k judged one = (cells c sound s t k judged one, cells_pairing c sound s t k judged one, cells_cost c sound s t k judged one)
