use Rattle.std.proofs.Common.{pos, ◌+ℤ◌, ◌*ℤ◌, ◌∙◌, ap, ap₂, arith, w64}
use borrow.Author.Differences.{ints}
use Rattle.std.proofs.lemmas.Int.{to_z-of_z}
use Rattle.std.proofs.lemmas.List.{get_or-take, get_or-drop}
use Rattle.weighted.specs.View.{chain}
use Rattle.finite.proofs.Sums.{sumℤ_same}
use Rattle.weighted.proofs.charts.potentials.Potentials.gain.Goals as goal

pub returns : goal.returns
returns c =
    let o = c.args.self.now in
    let n = o.chart.now.n in
    let ws = o.words.now in
    let split = c.split_at.ensures in
    let part = (chain o.chart.now).part in
    rw (
      to_z-of_z w64 c.weigh_row.result (omega (arith, ints)),
      to_z-of_z w64 c.weigh_row-2.result (omega (arith, ints)),
      to_z-of_z w64 (c.weigh_row.result +ℤ c.weigh_row-2.result) (omega (arith, ints)),
    ) (ap₂ ◌+ℤ◌
    (c.weigh_row.ensures.value ∙ sumℤ_same n _ _ (λ u l. ap (λ w. pos (part o.s u) *ℤ w) (rw split.front (get_or-take n ws u (pos 0) l))))
    (c.weigh_row-2.ensures.value ∙ sumℤ_same n _ _ (λ v l. ap (λ w. pos (part o.t v) *ℤ w) (rw split.back (get_or-drop n ws v (pos 0))))))
