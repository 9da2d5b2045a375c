use Rattle.std.proofs.Common.{codes, refl, arith, rules}
use Rattle.std.proofs.lemmas.Slice.Eq.{text_from_reads}
use Rattle.commands.proofs.name.read_name.Goals as goal

pub returns-in-open : goal.returns-in-open
returns-in-open c = rw (text_from_reads c.args.field.now (codes "open") (omega arith) (search rules)) refl

pub returns-in-claim : goal.returns-in-claim
returns-in-claim c = rw (text_from_reads c.args.field.now (codes "claim") (omega arith) (search rules)) refl

pub returns-in-close : goal.returns-in-close
returns-in-close c = rw (text_from_reads c.args.field.now (codes "close") (omega arith) (search rules)) refl

pub returns-in-show : goal.returns-in-show
returns-in-show c = rw (text_from_reads c.args.field.now (codes "show") (omega arith) (search rules)) refl

pub returns-in-enter : goal.returns-in-enter
returns-in-enter c = rw (text_from_reads c.args.field.now (codes "enter") (omega arith) (search rules)) refl

pub returns-in-abandon : goal.returns-in-abandon
returns-in-abandon c = rw (text_from_reads c.args.field.now (codes "abandon") (omega arith) (search rules)) refl

pub returns-in-ask : goal.returns-in-ask
returns-in-ask c = rw (text_from_reads c.args.field.now (codes "ask") (omega arith) (search rules)) refl

pub returns-in-weigh : goal.returns-in-weigh
returns-in-weigh c = rw (text_from_reads c.args.field.now (codes "weigh") (omega arith) (search rules)) refl
