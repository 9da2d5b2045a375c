use Rattle.std.proofs.Common.{◌≡◌, rules, arith}
use Rattle.std.proofs.lemmas.Bool.Decides.{nat_tests}
use Rattle.finite.proofs.Lists.{made_everywhere}
use Rattle.weighted.specs.Reading.{part_in}
use Rattle.weighted.proofs.charts.rows.read_row.Goals as goal

pub returns : goal.returns
returns c =
    let file = c.args.file.now in
    let fits = file.fits in
    made_everywhere c.from_fn.ensures.items (λ u y. y ≡ part_in file.bytes.now c.args.s u) (λ u y q k. search rules) 0 (λ u past. grind (arith, nat_tests))
