use Rattle.std.proofs.Common.{not, take, ◌∙◌, rules, tests, arith}
use Rattle.std.proofs.lemmas.Iterator.{YieldsList-from_slice}
use Rattle.std.proofs.lemmas.Iterator.Search.{position_from_yields_List}
use Rattle.finite.proofs.Lists.{position_in_first}
use Rattle.choice.specs.Reading.{mask_allowed}
use Rattle.choice.proofs.charts.masks.find_mask.Goals as goal

pub returns : goal.returns
returns c =
    let n = c.args.file.now.header.sections in
    let masks = c.args.masks.now in
    position_from_yields_List (λ mask. not (mask_allowed n mask)) _ _ _ c.position.ensures.ran (YieldsList-from_slice (take n masks) cc) (λ x b q k. search (rules, tests))
    ∙ position_in_first _ n masks 0 (omega arith)
