use Rattle.std.proofs.Common.{◌≡◌, ℕ, ◌+◌, ◌*◌, ◌<◌, ◌≤◌, Bool, true, false, ◌&&◌, ltb, List, get_or, take, drop, ℤ, pos, ◌+ℤ◌, ◌≤ℤ◌, sym, ◌∙◌, mul-le-mul_right, w32, SFits, to_z, of_z, rules, arith}
use lib.Signed.{lt_z}
use Rattle.std.proofs.lemmas.Int.{to_z-of_z}
use Rattle.std.proofs.lemmas.List.{get_or-take, get_or-drop}
use Rattle.finite.proofs.Search.{least_none}
use Rattle.chart.specs.declared.table.Table.{Table}
use Rattle.chart.specs.Tables.{distances}
use Rattle.chain.specs.Potentials.{above}
use Rattle.chart.specs.Words.{word}
use Rattle.chain.proofs.Valid.{above_first, not_above}
use Rattle.weighted.specs.declared.charts.potentials.Potentials.{Potentials}
use Rattle.weighted.specs.View.{chain}
use Rattle.weighted.proofs.Scan.{clear_cell, clear_skip, scan_found}
use Rattle.weighted.proofs.charts.potentials.Potentials.find_above.Goals as goal

-- whether the potentials of (u, v) come above its entry
abbrev bad : Potentials → Table → ℕ → ℕ → Bool
bad o d = above (chain o.chart.now) (distances d) o.s o.t o.words.now

-- that is what the test of one pair answers
tested : (o : Potentials) (d : Table) (alphas betas : List ℤ) (u v e : ℕ) (b : Bool) → (let c = chain o.chart.now in alphas ≡ take c.n o.words.now → betas ≡ drop c.n o.words.now → u < c.n → e ≡ (distances d).entry u v
    → SFits w32 (get_or alphas u (pos 0)) → SFits w32 (get_or betas v (pos 0))
    → b ≡ (ltb 0 (c.part o.s u) && (ltb 0 (c.part o.t v) && lt_z (pos e) (to_z w32 (of_z w32 (get_or alphas u (pos 0))) +ℤ to_z w32 (of_z w32 (get_or betas v (pos 0)))))) → bad o d u v ≡ b)
tested o d alphas betas u v e b front back l entry f g h =
    let n = o.chart.now.n in
    sym (rw (entry, to_z-of_z w32 (get_or alphas u (pos 0)) f, to_z-of_z w32 (get_or betas v (pos 0)) g, front, back, get_or-take n o.words.now u (pos 0) l, get_or-drop n o.words.now v (pos 0)) at h)

pub scan-preserved-then-first-u-eq0 : goal.scan-preserved-then-first-u-eq0
scan-preserved-then-first-u-eq0 c =
    let o = c.args.self.now in
    let d = c.args.d.now in
    (c.scan.invariant.0, clear_skip o.chart.now.n (bad o d) c.scan.u c.scan.invariant.1 (λ v l. above_first (chain o.chart.now) (distances d) o.s o.t o.words.now c.scan.u v c.if-first-u-eq0.true))

-- a row of the table that fits has no pair that comes above its entry
fits_clear : (o : Potentials) (d : Table) (bounds alphas : List ℤ) (u : ℕ) → alphas ≡ take o.chart.now.n o.words.now → u < o.chart.now.n → SFits w32 (get_or alphas u (pos 0))
    → ((v : ℕ) → v < o.chart.now.n → 0 < (chain o.chart.now).part o.t v → word bounds v ≡ word o.words.now (o.chart.now.n + v))
    → ((v : ℕ) → v < 32 → (to_z w32 (of_z w32 (get_or alphas u (pos 0))) +ℤ word bounds v) ≤ℤ pos ((distances d).entry u v))
    → (v : ℕ) → v < o.chart.now.n → bad o d u v ≡ false
fits_clear o d bounds alphas u front lu f is fits v lv =
    let n = o.chart.now.n in
    not_above (chain o.chart.now) (distances d) o.s o.t o.words.now u v (λ hu hv.
    let here = fits v (omega (arith, o.chart.now.n_most)) in
    rw (to_z-of_z w32 (get_or alphas u (pos 0)) f, front, get_or-take n o.words.now u (pos 0) lu, is v lv hv) at here)

pub row_fits-requires : goal.row_fits-requires
row_fits-requires c =
    let o = c.args.self.now in
    let n = o.chart.now.n in
    let u-in : c.scan.u < n = omega (arith, c.split_at.ensures.front_len) in
    let f : SFits w32 (get_or c.split_at.result.0.now c.scan.u (pos 0)) = search rules in (
      rw (to_z-of_z w32 _ f, c.split_at.ensures.front, get_or-take n o.words.now c.scan.u (pos 0) u-in) (o.narrow c.scan.u),
      c.bounds-bounds.ensures.narrow,
    )

pub scan-preserved-then-row_fits : goal.scan-preserved-then-row_fits
scan-preserved-then-row_fits c =
    let o = c.args.self.now in
    let u-in : c.scan.u < o.chart.now.n = omega (arith, c.split_at.ensures.front_len) in
    let f : SFits w32 (get_or c.split_at.result.0.now c.scan.u (pos 0)) = search rules in (
      c.scan.invariant.0,
      clear_skip o.chart.now.n (bad o c.args.d.now) c.scan.u c.scan.invariant.1
          (fits_clear o c.args.d.now c.bounds-bounds.result _ c.scan.u c.split_at.ensures.front u-in f c.bounds-bounds.ensures.same (c.row_fits.ensures c.if-row_fits.true)),
    )

pub loop-v-init : goal.loop-v-init
loop-v-init c = (c.scan.invariant.0, λ k l. c.scan.invariant.1 k (omega (arith, l)))

pub loop-v-preserved : goal.loop-v-preserved
loop-v-preserved c =
    let o = c.args.self.now in
    let d = c.args.d.now in
    let u-in : c.scan.u < o.chart.now.n = omega (arith, c.split_at.ensures.front_len) in
    let v-in : c.loop-v.v < o.chart.now.n = omega (arith, c.split_at.ensures.back_len) in (
      c.loop-v.invariant.0,
      clear_cell o.chart.now.n (bad o d) c.scan.u c.loop-v.v v-in c.loop-v.invariant.1
          (tested o d _ _ c.scan.u c.loop-v.v _ false c.split_at.ensures.front c.split_at.ensures.back u-in c.entry.ensures (search rules) (search rules) c.if-comes_above.ensures),
    )

pub scan-preserved : goal.scan-preserved
scan-preserved c = (c.loop-v.invariant.0, λ k l. c.loop-v.invariant.1 k (omega (arith, c.split_at.ensures.back_len)))

pub returns-after-scan : goal.returns-after-scan
returns-after-scan c =
    let n = c.args.self.now.chart.now.n in
    let past : n ≤ c.scan.u = omega (arith, c.split_at.ensures.front_len) in
    c.scan.invariant.0 ∙ sym (least_none (n * n) _ (λ i b. c.scan.invariant.1 i (omega (arith, mul-le-mul_right n past))))

pub returns-then-comes_above : goal.returns-then-comes_above
returns-then-comes_above c =
    let o = c.args.self.now in
    let d = c.args.d.now in
    let u-in : c.scan.u < o.chart.now.n = omega (arith, c.split_at.ensures.front_len) in
    let v-in : c.loop-v.v < o.chart.now.n = omega (arith, c.split_at.ensures.back_len) in
    sym (scan_found o.chart.now.n (bad o d) c.scan.u c.loop-v.v u-in v-in c.loop-v.invariant.1
    (tested o d _ _ c.scan.u c.loop-v.v _ true c.split_at.ensures.front c.split_at.ensures.back u-in c.entry.ensures (search rules) (search rules) c.if-comes_above.ensures))
