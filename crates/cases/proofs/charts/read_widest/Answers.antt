use Rattle.files.specs.Refusals.{refusal_of}
use Rattle.cases.proofs.Reading.{widest_read}
use Rattle.cases.proofs.charts.read_widest.Goals as goal

pub unreachable-requires : goal.unreachable-requires
unfolding refusal_of
unreachable-requires c = cc (c.in-Err.ensures.answer)

pub returns : goal.returns
returns c = rw c.in-Ok.ensures.chart widest_read.1
