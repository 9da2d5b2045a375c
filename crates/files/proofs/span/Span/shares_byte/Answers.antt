use Rattle.std.proofs.Common.{arith}
use Rattle.files.proofs.Spans.{share_is}
use Rattle.files.proofs.span.Span.shares_byte.Goals as goal

pub returns : goal.returns
returns c = share_is c.args.total c.max-first.result c.min-2.result c.args.self c.args.other c.max-first.ensures (omega arith)
