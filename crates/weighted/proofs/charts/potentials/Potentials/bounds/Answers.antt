use Rattle.std.proofs.Common.{◌≡◌, ℕ, ◌+◌, ◌<◌, replicate, ◌≢◌, length, set, List, ℤ, pos, negsuc, ⊎_elim, sym, refl, subst, ◌∙◌, w32, SFits, rules, arith}
use borrow.Author.Differences.{ints}
use Rattle.std.proofs.lemmas.Int.{to_z-of_z}
use Rattle.std.proofs.lemmas.Bool.{cases_lt, cases_eq}
use Rattle.std.proofs.lemmas.List.{get_or-replicate, get_or-set_same, get_or-set_other, get_or_past, length-set}
use Rattle.chart.specs.Words.{word}
use Rattle.weighted.specs.View.{chain}
use Rattle.weighted.specs.Bounds.{Narrow}
use Rattle.weighted.proofs.charts.potentials.Potentials.bounds.Goals as goal

narrow_lowest : Narrow (negsuc 999999999)
narrow_lowest = omega (arith, ints)

narrow_0 : Narrow (pos 0)
narrow_0 = omega (arith, ints)

start : (k : ℕ) → Narrow (word (replicate 32 (negsuc 999999999)) k)
start k = ⊎_elim
    (λ l. rw (get_or-replicate 32 k (negsuc 999999999) (pos 0) l) narrow_lowest)
    (λ past. rw (get_or_past (replicate 32 (negsuc 999999999)) k (pos 0) past) narrow_0)
    (cases_lt k 32)

pub loop-v-init : goal.loop-v-init
loop-v-init c = (refl, start, λ k l. absurd (omega (arith, l)))

-- P holds of y at v, and elsewhere of what was there
placed : (xs : List ℤ) (v : ℕ) (y : ℤ) (P : ℕ → ℤ → Type 0) → v < length xs → P v y → ((k : ℕ) → k ≢ v → P k (word xs k)) → (k : ℕ) → P k (word (set xs v y) k)
placed xs v y P l here there k = ⊎_elim
    (λ e. subst (λ j. P j (word (set xs v y) j)) (sym e) (subst (P v) (sym (get_or-set_same xs v y (pos 0) l)) here))
    (λ d. subst (P k) (sym (get_or-set_other xs v k y (pos 0) d)) (there k d))
    (cases_eq k v)

pub loop-v-preserved : goal.loop-v-preserved
loop-v-preserved c =
    let o = c.args.self.now in
    let n = o.chart.now.n in
    let v = c.loop-v.v in
    let xs = c.loop-v.bounds in
    let (long, narrow, same) = c.loop-v.invariant in
    let inside : v < length xs = omega (arith, long, c.loop-v-test.true, o.chart.now.n_most) in
    let f : SFits w32 c.bound.result = search rules in
    rw (to_z-of_z w32 c.bound.result f) (
      length-set xs v c.bound.result ∙ long,
      placed xs v c.bound.result (λ k z. Narrow z) inside c.bound.ensures.narrow (λ k d. narrow k),
      placed xs v c.bound.result (λ k z. k < v + 1 → 0 < (chain o.chart.now).part o.t k → z ≡ word o.words.now (n + k)) inside (λ l some. c.bound.ensures.same some)
          (λ k d l some. same k (omega (arith, d, l)) some),
    )

pub returns-clause-narrow : goal.returns-clause-narrow
returns-clause-narrow c = c.loop-v.invariant.1

pub returns-clause-same : goal.returns-clause-same
returns-clause-same c = λ v l some. c.loop-v.invariant.2 v (omega (arith, l, c.loop-v-test.false)) some
