use Rattle.std.proofs.Common.{◌≡◌, rules, arith}
use Rattle.std.proofs.lemmas.Bool.Decides.{nat_tests}
use Rattle.finite.proofs.Lists.{made_everywhere}
use Rattle.choice.specs.Reading.{mask_in}
use Rattle.choice.proofs.charts.masks.read_masks.Goals as goal

pub returns : goal.returns
returns c =
    let file = c.args.file.now in
    let fits = file.fits in
    made_everywhere c.from_fn.ensures.items (λ s y. y ≡ mask_in file.bytes.now s) (λ s y q k. search rules) 0 (λ s past. grind (arith, nat_tests))
