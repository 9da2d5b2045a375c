use Rattle.std.proofs.Common.{◌≡◌, ℕ, ◌≤◌, Bool, true, false, not, slice_index, ℤ, pos, ◌+ℤ◌, ◌≤ℤ◌, refl, ⊎_elim, arith, w32, SFits, to_z, of_z, rules}
use lib.Signed.{lt_z}
use borrow.Author.Differences.{ints, fits_in, lt-false, at_most_in}
use Rattle.std.proofs.Math.Facts.{to_z_pos}
use Rattle.std.proofs.lemmas.Int.{to_z-of_z}
use Rattle.std.proofs.lemmas.Bool.{or_parts, cases_lt}
use Rattle.chart.proofs.Bounds.{entry_most}
use Rattle.weighted.specs.Bounds.{Narrow}
use Rattle.weighted.proofs.charts.potentials.weighing.row_fits.Goals as goal

-- the sum of two narrow words is a word, so that the test of the code is that of the numbers
tested : (alpha bound : ℤ) (entry : ℕ) → Narrow alpha → Narrow bound → entry ≤ 1000000000
    → lt_z (to_z w32 entry) (to_z w32 (of_z w32 (to_z w32 (of_z w32 alpha) +ℤ to_z w32 (of_z w32 bound)))) ≡ false → (alpha +ℤ bound) ≤ℤ pos entry
tested alpha bound entry a b few e =
    let same : lt_z (pos entry) (alpha +ℤ bound) ≡ false
    = rw (
      to_z_pos w32 {n = entry} (omega arith),
      to_z-of_z w32 alpha (fits_in w32 alpha (omega (arith, ints, a))),
      to_z-of_z w32 bound (fits_in w32 bound (omega (arith, ints, b))),
      to_z-of_z w32 (alpha +ℤ bound) (fits_in w32 (alpha +ℤ bound) (omega (arith, ints, a, b))),
    ) at e in
    at_most_in (alpha +ℤ bound) (pos entry) (lt-false (pos entry) (alpha +ℤ bound) same)

off : (b : Bool) → not b ≡ true → b ≡ false
off false e = refl
off true e = absurd (cc)

pub loop-v-init : goal.loop-v-init
loop-v-init c = λ e k l. absurd (omega (arith, l))

pub loop-v-preserved : goal.loop-v-preserved
loop-v-preserved c = λ e k l.
    let v = c.loop-v.v in
    let fits : SFits w32 c.args.alpha = search rules in
    let (before, here) = or_parts c.loop-v.above _ e in
    let few : slice_index c.in-Some.row.now v ≤ 1000000000 = rw (c.in-Some.ensures.2 v c.loop-v-test.true) (entry_most c.args.d.now c.args.u v) in
    ⊎_elim (λ earlier. c.loop-v.invariant before k earlier) (λ late.
    let same : k ≡ v = omega (arith, l, late) in
    rw (same, to_z-of_z w32 c.args.alpha fits) (tested c.args.alpha _ _ c.requires.0 (c.requires.1 v) few here))
    (cases_lt k v)

pub returns : goal.returns
returns c = λ e v l.
    let past : 32 ≤ c.loop-v.v = c.loop-v-test.false in
    let fits : SFits w32 c.args.alpha = search rules in
    let under = c.loop-v.invariant (off _ e) v (omega (arith, l, past)) in
    rw (to_z-of_z w32 c.args.alpha fits, c.in-Some.ensures.2 v l) at under
