use Rattle.std.proofs.Common.{rules}
use Rattle.choice.proofs.Marks.{names_none}
use Rattle.choice.proofs.charts.successors.named_section.Goals as goal

pub returns-in_default-2 : goal.returns-in_default-2
returns-in_default-2 c = names_none c.args.mask c.in-Ok.u c.args.word c.ranges.mask.fits c.if-u-lt-SECTIONS.false (search rules)
