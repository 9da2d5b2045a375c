use Rattle.std.proofs.Common.{arith}
use Rattle.choice.proofs.Marks.{none_unpaired, lowest_unpaired}
use Rattle.choice.proofs.charts.pairing.find_unpaired.Goals as goal

pub returns-then-unpaired-eq0 : goal.returns-then-unpaired-eq0
returns-then-unpaired-eq0 c = none_unpaired c.args.mask c.args.paired c.ranges.paired.fits c.if-unpaired-eq0.true

pub returns : goal.returns
returns c = lowest_unpaired c.args.mask c.args.paired c.ranges.paired.fits c.ranges.mask.fits (omega (arith, c.if-unpaired-eq0.false))
