use Rattle.std.proofs.Common.{◌≡◌, ℕ, [], slice_index, rules, arith}
use Rattle.std.proofs.lemmas.Bool.Decides.{nat_tests}
use Rattle.finite.proofs.Lists.{made_everywhere}
use Rattle.weighted.specs.Reading.{part_in}
use Rattle.weighted.proofs.charts.rows.read_rows.Goals as goal

pub returns : goal.returns
returns c =
    let file = c.args.file.now in
    let fits = file.fits in
    made_everywhere c.from_fn.ensures.items (λ s y. (u : ℕ) → slice_index y u ≡ part_in file.bytes.now s u) (λ s y q k. search rules) [] (λ s past u. grind (arith, nat_tests))
