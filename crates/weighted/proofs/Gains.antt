-- The sum of potentials that keep within the top is small.
use Rattle.std.proofs.Common.{◌≡◌, ℕ, ◌+◌, ◌*◌, ◌<◌, ◌≤◌, List, ℤ, pos, ◌*ℤ◌, ◌≤ℤ◌, ◌∙◌, mul-le-mul_right, mul_comm, arith}
use borrow.Author.Differences.{ints}
use Rattle.finite.specs.Sums.{sum, sumℤ}
use Rattle.finite.proofs.Sums.{sum_mul_right}
use Rattle.chart.specs.Distances.{Distances}
use Rattle.chart.specs.Words.{word}
use Rattle.chain.specs.Chain.{Chain, Sound}
use Rattle.chain.specs.Potentials.{alpha, beta, gain, Potentials}
use Rattle.weighted.proofs.Near.{Near, near_product, near_sum}

-- a row weighed by words within top of 0
row_near : (c : Chain) → Sound c → (s top : ℕ) → s < c.n → (w : ℕ → ℤ) → ((u : ℕ) → u < c.n → Near top (w u))
    → Near (top * c.whole) (sumℤ c.n (λ u. pos (c.part s u) *ℤ w u))
row_near c sound s top l w h =
    let e : sum c.n (λ u. c.part s u * top) ≡ top * c.whole
    = sum_mul_right c.n top (c.part s) ∙ rw (sound.rows s l) (mul_comm c.whole top) in
    omega (arith, e, near_sum c.n (λ u. c.part s u * top) (λ u. pos (c.part s u) *ℤ w u) (λ u k. near_product (c.part s u) top (w u) (h u k)))

pub gain_few : (c : Chain) → Sound c → (d : Distances) (s t : ℕ) (ws : List ℤ) → d.top ≤ 1000000000 → Potentials c d s t ws → gain c s t ws ≤ℤ pos (2000000000 * c.whole)
gain_few c sound d s t ws few p =
    let near : (i : ℕ) → i < 2 * c.n → Near d.top (word ws i) = λ i l.
    let h = p.range i l in omega (arith, ints) in
    let first = row_near c sound s d.top p.judged.first_in (alpha ws) (λ u l. near u (omega arith)) in
    let second = row_near c sound t d.top p.judged.second_in (beta c ws) (λ v l. near (c.n + v) (omega arith)) in
    omega (arith, ints, mul-le-mul_right c.whole few)
