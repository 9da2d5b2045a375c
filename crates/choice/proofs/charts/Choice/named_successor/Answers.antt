use Rattle.std.proofs.Common.{w32, SFits, rules}
use Rattle.std.proofs.lemmas.Int.{to_z-of_z}
use Rattle.choice.proofs.Marks.{named_is}
use Rattle.choice.proofs.charts.Choice.named_successor.Goals as goal

pub returns : goal.returns
returns c =
    let z = c.args.word in
    let fits : SFits w32 z = search rules in
    named_is c.args.self.now c.args.s _ c.mask.ensures z c.named_section.result (rw (to_z-of_z w32 z fits) at c.named_section.ensures)
