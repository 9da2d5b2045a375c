use Rattle.files.specs.Refusals.{refusal_of}
use Rattle.cases.proofs.Reading.{three_read}
use Rattle.cases.proofs.charts.read_three.Goals as goal

pub unreachable-requires : goal.unreachable-requires
unfolding refusal_of
unreachable-requires c = cc (c.in-Err.ensures.answer)

pub returns : goal.returns
returns c = rw c.in-Ok.ensures.chart three_read.1
