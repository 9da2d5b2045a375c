-- Couplings: a pairing spells one, two rows have a product, and each bounds what potentials show.
use Rattle.std.proofs.Common.{◌≡◌, ℕ, ◌+◌, ◌*◌, ◌<◌, ◌≤◌, cond, eqb, List, ℤ, pos, ◌+ℤ◌, ◌*ℤ◌, sym, ap, ◌∙◌, ⊎_elim, le_refl, mul_assoc, mul_comm, mul-le-mul_left, mul-pos, one-mul, mul-add, arith}
use native.Mathlib.Nat.{le_of_mul-le-mul_left}
use borrow.Author.Differences.{up, down, sum_is_lem, product_is, le_out}
use Rattle.std.proofs.lemmas.Bool.{cases_lt}
use Rattle.std.proofs.lemmas.Bool.Decides.{nat_tests}
use Rattle.finite.specs.Sums.{sum, sumℤ}
use Rattle.finite.proofs.Sums.{sum_same, sum_le, sum_add, sum_mul, sum_mul_right, sum_swap, sum_places, term_le_sum, sumℤ_parts}
use Rattle.chart.specs.Distances.{Distances}
use Rattle.chart.specs.Laws.{Within}
use Rattle.chain.specs.Chain.{Chain, Sound}
use Rattle.chain.specs.Pairing.{left, right, amount, triples, cost, Pairing, PairingShows}
use Rattle.chain.specs.Potentials.{alpha, beta, gain, Potentials, PotentialsShow}
use Rattle.chain.specs.Coupling.{Coupling, total, MeanAtMost, CouplingsBoundPotentials}
use Rattle.chain.proofs.Words.{up_most}

-- the amounts of triples x j, y j, a j at (u, v)
abbrev pub cell : ℕ → (ℕ → ℕ) → (ℕ → ℕ) → (ℕ → ℕ) → ℕ → ℕ → ℕ
cell m x y a u v = sum m (λ j. cond (eqb (y j) v) (cond (eqb (x j) u) (a j) 0) 0)

module _ (n m : ℕ) (x y a : ℕ → ℕ) (x-in : (j : ℕ) → j < m → x j < n) (y-in : (j : ℕ) → j < m → y j < n) where
  pub cell_rows : (u : ℕ) → sum n (λ v. cell m x y a u v) ≡ sum m (λ j. cond (eqb (x j) u) (a j) 0)
  cell_rows u = sum_places n m y (λ j. cond (eqb (x j) u) (a j) 0) y-in

  pub cell_columns : (v : ℕ) → sum n (λ u. cell m x y a u v) ≡ sum m (λ j. cond (eqb (y j) v) (a j) 0)
  cell_columns v =
      sum_same n _ _ (λ u l. sum_same m _ _ (λ j k. grind arith))
      ∙ sum_places n m x (λ j. cond (eqb (y j) v) (a j) 0) x-in

  cell_weighed : (w : ℕ → ℕ → ℕ) (u v : ℕ) → cell m x y a u v * w u v ≡ sum m (λ j. cond (eqb (y j) v) (cond (eqb (x j) u) (a j * w (x j) (y j)) 0) 0)
  cell_weighed w u v =
      sym (sum_mul_right m (w u v) (λ j. cond (eqb (y j) v) (cond (eqb (x j) u) (a j) 0) 0))
      ∙ sum_same m _ _ (λ j l. grind (arith, nat_tests))

  -- the matrix weighed by w is the triples weighed by it
  cell_total : (w : ℕ → ℕ → ℕ) → sum n (λ u. sum n (λ v. cell m x y a u v * w u v)) ≡ sum m (λ j. a j * w (x j) (y j))
  cell_total w =
      sum_same n _ _ (λ u l. sum_same n _ _ (λ v k. cell_weighed w u v) ∙ sum_places n m y (λ j. cond (eqb (x j) u) (a j * w (x j) (y j)) 0) y-in)
      ∙ sum_places n m x (λ j. a j * w (x j) (y j)) x-in

module _ (c : Chain) (s t : ℕ) (ws : List ℤ) (p : Pairing c s t ws) where
  pub left_in : (j : ℕ) → j < triples ws → left ws j < c.n
  left_in j l = omega (arith, p.judged.first_in, up_most _ _ (p.left_word j l).1)

  pub right_in : (j : ℕ) → j < triples ws → right ws j < c.n
  right_in j l = omega (arith, p.judged.first_in, up_most _ _ (p.right_word j l).1)

  -- a pairing is a coupling
  abbrev pub spelled : Coupling c s t
  spelled = record {
    times = 1;
    amounts = cell (triples ws) (left ws) (right ws) (amount ws);
    times_least = le_refl 1;
    first_margin = λ u l. cell_rows c.n (triples ws) (left ws) (right ws) (amount ws) left_in right_in u ∙ p.left_margin u l ∙ sym (one-mul (c.part s u));
    second_margin = λ v l. cell_columns c.n (triples ws) (left ws) (right ws) (amount ws) left_in right_in v ∙ p.right_margin v l ∙ sym (one-mul (c.part t v));
  }

  pub spelled_total : (d : Distances) → total c spelled d ≡ cost d ws
  spelled_total d = cell_total c.n (triples ws) (left ws) (right ws) (amount ws) left_in right_in d.entry

  -- what the pairing shows is at least the coupling's discounted mean
  pub mean_shown : (d : Distances) (x : ℕ) → PairingShows c d ws x → MeanAtMost c spelled d x
  mean_shown d x h = rw (spelled_total d, one-mul c.whole) h

module _ (c : Chain) (s t : ℕ) (k : Coupling c s t) where
  -- a matrix weighed by x at its rows and y at its columns is the two rows so weighed
  exchanged : (x y : ℕ → ℕ) → sum c.n (λ u. sum c.n (λ v. k.amounts u v * (x u + y v))) ≡ k.times * (sum c.n (λ u. c.part s u * x u) + sum c.n (λ v. c.part t v * y v))
  exchanged x y =
      let n = c.n in
      let rows : sum n (λ u. sum n (λ v. k.amounts u v * x u)) ≡ k.times * sum n (λ u. c.part s u * x u)
      = sum_same n _ _ (λ u l. sum_mul_right n (x u) (λ v. k.amounts u v) ∙ ap (λ z. z * x u) (k.first_margin u l) ∙ mul_assoc k.times (c.part s u) (x u))
      ∙ sum_mul n k.times (λ u. c.part s u * x u) in
      let columns : sum n (λ u. sum n (λ v. k.amounts u v * y v)) ≡ k.times * sum n (λ v. c.part t v * y v)
      = sum_swap n n (λ u v. k.amounts u v * y v)
      ∙ sum_same n _ _ (λ v l. sum_mul_right n (y v) (λ u. k.amounts u v) ∙ ap (λ z. z * y v) (k.second_margin v l) ∙ mul_assoc k.times (c.part t v) (y v))
      ∙ sum_mul n k.times (λ v. c.part t v * y v) in
      let split : sum n (λ u. sum n (λ v. k.amounts u v * (x u + y v))) ≡ sum n (λ u. sum n (λ v. k.amounts u v * x u)) + sum n (λ u. sum n (λ v. k.amounts u v * y v))
      = sum_same n _ _ (λ u l. sum_same n _ _ (λ v j. mul-add (k.amounts u v) (x u) (y v)) ∙ sum_add n (λ v. k.amounts u v * x u) (λ v. k.amounts u v * y v))
      ∙ sum_add n (λ u. sum n (λ v. k.amounts u v * x u)) (λ u. sum n (λ v. k.amounts u v * y v)) in
      omega (arith, rows, columns, split)

  -- all amounts add up to Q × P
  pub mass : Sound c → s < c.n → sum c.n (λ u. sum c.n (λ v. k.amounts u v)) ≡ k.times * c.whole
  mass sound l = sum_same c.n _ _ (λ u h. k.first_margin u h) ∙ sum_mul c.n k.times (c.part s) ∙ ap (λ z. k.times * z) (sound.rows s l)

  -- where a section has no part, it has no amount
  first_none : (u v : ℕ) → u < c.n → v < c.n → c.part s u ≡ 0 → k.amounts u v ≡ 0
  first_none u v lu lv e = omega (arith, term_le_sum c.n (λ v. k.amounts u v) v lv, k.first_margin u lu, ap (λ z. k.times * z) e)

  second_none : (u v : ℕ) → u < c.n → v < c.n → c.part t v ≡ 0 → k.amounts u v ≡ 0
  second_none u v lu lv e = omega (arith, term_le_sum c.n (λ u. k.amounts u v) u lu, k.second_margin v lv, ap (λ z. k.times * z) e)

  -- the total in one table, against that in another
  pub total_le : Sound c → s < c.n → (l e : Distances) (m : ℕ) → Within c.n l e m → e.top * total c k l ≤ l.top * total c k e + m * (k.times * c.whole)
  total_le sound inside l e m h =
      let n = c.n in
      let T = e.top in
      let K = l.top in
      let each : (u v : ℕ) → u < n → v < n → T * (k.amounts u v * l.entry u v) ≤ K * (k.amounts u v * e.entry u v) + m * k.amounts u v
      = λ u v lu lv. omega (arith, mul-le-mul_left (k.amounts u v) (h u v lu lv)) in
      let row : (u : ℕ) → u < n → T * sum n (λ v. k.amounts u v * l.entry u v) ≤ K * sum n (λ v. k.amounts u v * e.entry u v) + m * sum n (λ v. k.amounts u v)
      = λ u lu. omega (
        arith,
        sum_le n _ _ (λ v lv. each u v lu lv),
        sum_mul n T (λ v. k.amounts u v * l.entry u v),
        sum_mul n K (λ v. k.amounts u v * e.entry u v),
        sum_mul n m (λ v. k.amounts u v),
        sum_add n (λ v. K * (k.amounts u v * e.entry u v)) (λ v. m * k.amounts u v),
      ) in
      omega (
        arith,
        sum_le n _ _ row,
        sum_mul n T (λ u. sum n (λ v. k.amounts u v * l.entry u v)),
        sum_mul n K (λ u. sum n (λ v. k.amounts u v * e.entry u v)),
        sum_mul n m (λ u. sum n (λ v. k.amounts u v)),
        sum_add n (λ u. K * sum n (λ v. k.amounts u v * e.entry u v)) (λ u. m * sum n (λ v. k.amounts u v)),
        ap (λ z. m * z) (mass sound inside),
      )

-- S of potentials, by the parts above and below 0
gain_parts : (c : Chain) (s t : ℕ) (ws : List ℤ)
    → up (gain c s t ws) + (sum c.n (λ u. c.part s u * down (alpha ws u)) + sum c.n (λ v. c.part t v * down (beta c ws v)))
    ≡ down (gain c s t ws) + (sum c.n (λ u. c.part s u * up (alpha ws u)) + sum c.n (λ v. c.part t v * up (beta c ws v)))
gain_parts c s t ws =
    let f : ℕ → ℤ = λ u. pos (c.part s u) *ℤ alpha ws u in
    let g : ℕ → ℤ = λ v. pos (c.part t v) *ℤ beta c ws v in
    omega (
      arith,
      sum_is_lem (sumℤ c.n f) (sumℤ c.n g),
      sumℤ_parts c.n f,
      sumℤ_parts c.n g,
      sum_same c.n (λ u. up (f u)) (λ u. c.part s u * up (alpha ws u)) (λ u l. omega (arith, product_is (pos (c.part s u)) (alpha ws u))),
      sum_same c.n (λ u. down (f u)) (λ u. c.part s u * down (alpha ws u)) (λ u l. omega (arith, product_is (pos (c.part s u)) (alpha ws u))),
      sum_same c.n (λ v. up (g v)) (λ v. c.part t v * up (beta c ws v)) (λ v l. omega (arith, product_is (pos (c.part t v)) (beta c ws v))),
      sum_same c.n (λ v. down (g v)) (λ v. c.part t v * down (beta c ws v)) (λ v l. omega (arith, product_is (pos (c.part t v)) (beta c ws v))),
    )

-- Q × S of potentials is at most the total of a coupling in the same table
gain_le : (c : Chain) (d : Distances) (s t : ℕ) (ws : List ℤ) (k : Coupling c s t) → Potentials c d s t ws
    → k.times * up (gain c s t ws) ≤ total c k d + k.times * down (gain c s t ws)
gain_le c d s t ws k q =
    let n = c.n in
    let w = k.amounts in
    let ups : ℕ → ℕ → ℕ = λ u v. up (alpha ws u) + up (beta c ws v) in
    let downs : ℕ → ℕ → ℕ = λ u v. down (alpha ws u) + down (beta c ws v) in
    let nothing : (u v : ℕ) → w u v ≡ 0 → w u v * ups u v ≤ w u v * d.entry u v + w u v * downs u v
    = λ u v e. omega (arith, ap (λ z. z * ups u v) e) in
    let each : (u v : ℕ) → u < n → v < n → w u v * ups u v ≤ w u v * d.entry u v + w u v * downs u v
    = λ u v lu lv. ⊎_elim
    (λ hu. ⊎_elim
    (λ hv.
    let h : ups u v ≤ d.entry u v + downs u v = omega (arith, le_out (alpha ws u +ℤ beta c ws v) (pos (d.entry u v)) (q.under u v lu lv hu hv), sum_is_lem (alpha ws u) (beta c ws v)) in
    omega (arith, mul-le-mul_left (w u v) h))
    (λ hv. nothing u v (second_none c s t k u v lu lv (omega arith)))
    (cases_lt 0 (c.part t v)))
    (λ hu. nothing u v (first_none c s t k u v lu lv (omega arith)))
    (cases_lt 0 (c.part s u)) in
    let row : (u : ℕ) → u < n → sum n (λ v. w u v * ups u v) ≤ sum n (λ v. w u v * d.entry u v) + sum n (λ v. w u v * downs u v)
    = λ u lu. omega (arith, sum_le n _ _ (λ v lv. each u v lu lv), sum_add n (λ v. w u v * d.entry u v) (λ v. w u v * downs u v)) in
    omega (
      arith,
      sum_le n _ _ row,
      sum_add n (λ u. sum n (λ v. w u v * d.entry u v)) (λ u. sum n (λ v. w u v * downs u v)),
      exchanged c s t k (λ u. up (alpha ws u)) (λ v. up (beta c ws v)),
      exchanged c s t k (λ u. down (alpha ws u)) (λ v. down (beta c ws v)),
      ap (λ z. k.times * z) (gain_parts c s t ws),
    )

-- the numbers alone
scaled : (a b P K T m l u X S above below : ℕ) → 1 ≤ P
    → b * P * l + a * below ≤ a * above → above ≤ X + below → T * X ≤ K * S + m * P → a * S ≤ b * P * u
    → b * (l * T) ≤ b * (u * K) + a * m
scaled a b P K T m l u X S above below some shows gap tables shown =
    let under : b * P * l ≤ a * X = omega (arith, mul-le-mul_left a gap) in
    let times : P * (b * (l * T)) ≤ P * (b * (u * K) + a * m) = omega (arith, mul-le-mul_left T under, mul-le-mul_left a tables, mul-le-mul_left K shown) in
    le_of_mul-le-mul_left times some

pub potentials_bounded : (c : Chain) → Sound c → (l e : Distances) (s t : ℕ) (ws : List ℤ) (x y m : ℕ) (k : Coupling c s t)
    → Potentials c l s t ws → PotentialsShow c s t ws x → MeanAtMost c k e y → Within c.n l e m
    → c.b * (x * e.top) ≤ c.b * (y * l.top) + c.a * m
potentials_bounded c sound l e s t ws x y m k q shows mean near =
    ⊎_elim
    (λ none. omega (arith, ap (λ z. c.b * (z * e.top)) none))
    (λ some. scaled c.a c.b (k.times * c.whole) l.top e.top m x y (total c k l) (total c k e) (k.times * up (gain c s t ws)) (k.times * down (gain c s t ws))
    (mul-pos {m = k.times} {n = c.whole} k.times_least sound.whole_least)
    (let by_one : c.b * c.whole * x + c.a * down (gain c s t ws) ≤ c.a * up (gain c s t ws) = omega (arith, le_out (pos (c.b * c.whole * x)) (pos c.a *ℤ gain c s t ws) some, product_is (pos c.a) (gain c s t ws)) in
    omega (arith, mul-le-mul_left k.times by_one))
    (gain_le c l s t ws k q) (total_le c s t k sound q.judged.first_in l e m near) mean)
    shows

-- the product of two rows is a coupling, with P for Q
pub product : (c : Chain) → Sound c → (s t : ℕ) → s < c.n → t < c.n → Coupling c s t
product c sound s t ls lt = record {
  times = c.whole;
  amounts = λ u v. c.part s u * c.part t v;
  times_least = sound.whole_least;
  first_margin = λ u l. sum_mul c.n (c.part s u) (c.part t) ∙ ap (λ z. c.part s u * z) (sound.rows t lt) ∙ mul_comm (c.part s u) c.whole;
  second_margin = λ v l. sum_mul_right c.n (c.part t v) (c.part s) ∙ ap (λ z. z * c.part t v) (sound.rows s ls);
}

pub couplings_bound : (c : Chain) → Sound c → CouplingsBoundPotentials c
couplings_bound c sound l e s t ws x y m k shown mean near = potentials_bounded c sound l e s t ws x y m k shown.valid shown.shows mean near
