use Rattle.std.proofs.Common.{◌≡◌, rules, arith}
use Rattle.std.proofs.lemmas.Bool.Decides.{nat_tests}
use Rattle.finite.proofs.Lists.{made_everywhere}
use Rattle.files.specs.Headers.{band_in}
use Rattle.files.proofs.file.ChartFile.bands.Goals as goal

pub returns : goal.returns
returns c =
    let file = c.args.self.now in
    let fits = file.fits in
    made_everywhere c.from_fn.ensures.items (λ s y. y ≡ band_in file.bytes.now s) (λ s y q k. search rules) 0 (λ s past. grind (arith, nat_tests))
