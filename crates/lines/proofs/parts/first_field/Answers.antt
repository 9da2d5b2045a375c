use Rattle.std.proofs.Common.{refl, arith}
use Rattle.std.proofs.lemmas.Fn.{gave_at}
use Rattle.std.proofs.lemmas.Result.{err_from_is_err_and}
use Rattle.lines.proofs.parts.first_field.Goals as goal

pub returns : goal.returns
returns g c =
    let says = c.requires.1.1.1 _ _ (gave_at g.F.FnOnce c.read.ensures refl) in
    grind arith

pub returns-in_err-value : goal.returns-in_err-value
returns-in_err-value g c =
    let says = c.requires.1.1.1 _ _ (gave_at g.F.FnOnce c.read.ensures refl) in
    let p = err_from_is_err_and c.from_residual-in_err-value.result c.from_residual-in_err-value.ensures.1 in
    rw (p.1, p.2) (grind arith)
