-- The cost of a pairing, and what potentials show against it.
use Rattle.std.proofs.Common.{◌≡◌, ℕ, ◌+◌, ◌*◌, ◌<◌, ◌≤◌, Bool, true, false, cond, List, ℤ, subst, sym, le_trans, mul-le-mul_left, mul-le-mul_right, arith}
use Rattle.finite.proofs.Sums.{term_le_greatest, greatest_is}
use Rattle.chart.specs.Distances.{Distances}
use Rattle.chart.specs.Words.{word}
use Rattle.transitions.specs.System.{System, successor}
use Rattle.transitions.specs.Pairing.{left, right, pairs, cost, Pairing}
use Rattle.transitions.proofs.Words.{successor_in, named}

pub entry_le_cost : (d : Distances) (ws : List ℤ) (j : ℕ) → j < pairs ws → d.entry (left ws j) (right ws j) ≤ cost d ws
entry_le_cost d ws j l = term_le_greatest (pairs ws) (λ j. d.entry (left ws j) (right ws j)) j l

-- what holds of 0 and of each pair's entry holds of the cost
pub cost_is : (P : ℕ → Type 0) (d : Distances) (ws : List ℤ) → P 0 → ((j : ℕ) → j < pairs ws → P (d.entry (left ws j) (right ws j))) → P (cost d ws)
cost_is P d ws none h = greatest_is P (pairs ws) (λ j. d.entry (left ws j) (right ws j)) none h

module _ (c : System) (s t : ℕ) (ws : List ℤ) (p : Pairing c s t ws) where
  pub left_successor : (j : ℕ) → j < pairs ws → successor c s (left ws j) ≡ true
  left_successor j l = named c s (word ws (2 * j)) (p.left_names j l)

  pub right_successor : (j : ℕ) → j < pairs ws → successor c t (right ws j) ≡ true
  right_successor j l = named c t (word ws (2 * j + 1)) (p.right_names j l)

  pub cost_le : (d e : Distances) → ((x y : ℕ) → x < c.n → y < c.n → e.entry x y ≤ d.entry x y) → cost e ws ≤ cost d ws
  cost_le d e h = cost_is (λ x. x ≤ cost d ws) e ws (omega arith) (λ j l. le_trans
      (h (left ws j) (right ws j) (successor_in c s _ (left_successor j l)) (successor_in c t _ (right_successor j l)))
      (entry_le_cost d ws j l))

  -- a floor under the entries of a successor of the one section, s where b holds, is under the entry of the pair that has it
  pub floor_met : (d : Distances) (b : Bool) (x f : ℕ) → successor c (cond b s t) x ≡ true → ((y : ℕ) → successor c (cond b t s) y ≡ true → f ≤ cond b (d.entry x y) (d.entry y x))
      → (j : ℕ) × (j < pairs ws) × (f ≤ d.entry (left ws j) (right ws j))
  floor_met d true x f h under =
      let (j, l, is) = p.left_each x h in
      (j, l, subst (λ z. f ≤ d.entry z (right ws j)) (sym is) (under (right ws j) (right_successor j l)))
  floor_met d false x f h under =
      let (j, l, is) = p.right_each x h in
      (j, l, subst (λ z. f ≤ d.entry (left ws j) z) (sym is) (under (left ws j) (left_successor j l)))

-- the numbers alone
pub crossed : (a b T K m x y f low high most : ℕ) → b * x ≤ a * f → f ≤ low → low * T ≤ high * K + m → high ≤ most → a * most ≤ b * y → b * (x * T) ≤ b * (y * K) + a * m
crossed a b T K m x y f low high most shows under near fits shown =
    omega (
      arith,
      mul-le-mul_right T shows,
      mul-le-mul_left a (mul-le-mul_right T under),
      mul-le-mul_left a near,
      mul-le-mul_left a (mul-le-mul_right K fits),
      mul-le-mul_right K shown,
    )

pub facing_le : (n : ℕ) (d e : Distances) (b : Bool) (x y : ℕ) → x < n → y < n → ((x y : ℕ) → x < n → y < n → d.entry x y ≤ e.entry x y)
    → cond b (d.entry x y) (d.entry y x) ≤ cond b (e.entry x y) (e.entry y x)
facing_le n d e true x y lx ly h = h x y lx ly
facing_le n d e false x y lx ly h = h y x ly lx
