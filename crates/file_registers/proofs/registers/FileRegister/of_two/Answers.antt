use Rattle.std.proofs.Common.{◌≡◌, rules, Err}
use Rattle.std.proofs.lemmas.Result.{err_from_is_err_and}
use Rattle.files.specs.declared.refusal.ReadRefusal.{ReadRefusal}
use Rattle.file_registers.specs.declared.registers.NotMade.TheVariants.{Second, Top, Misfit}
use Rattle.file_registers.specs.Making.{Holds}
use Rattle.file_registers.proofs.registers.FileRegister.of_two.Goals as goal

pub returns-in_err-second : goal.returns-in_err-second
returns-in_err-second c =
    let p = err_from_is_err_and c.from_residual-in_err-second.result c.from_residual-in_err-second.ensures.1 in
    let holds : Holds c.args.first.now c.in_ok-first.first = search rules in
    let (e, is, refused) : (e : ReadRefusal) × (c.in_err-second.field-0.0 ≡ Second e) × (c.read-2.result ≡ Err e) = search rules in
    rw (p.1, p.2, is) (c.in_ok-first.first, holds, search rules)

pub returns-in_err-top : goal.returns-in_err-top
returns-in_err-top c =
    let p = err_from_is_err_and c.from_residual-in_err-top.result c.from_residual-in_err-top.ensures.1 in
    let is : c.in_err-top.field-0.0 ≡ Top = search rules in
    rw (p.1, p.2, is) (c.in_ok-first.first, c.in_ok-second.second, search rules, search rules, search rules)

pub returns-in_err-chart : goal.returns-in_err-chart
returns-in_err-chart c =
    let p = err_from_is_err_and c.from_residual-in_err-chart.result c.from_residual-in_err-chart.ensures.1 in
    let is : c.in_err-chart.field-0.0 ≡ Misfit = search rules in
    rw (p.1, p.2, is) (c.in_ok-first.first, c.in_ok-second.second, search rules, search rules, search rules, search rules)

pub returns : goal.returns
returns c = (c.in_ok-first.first, c.in_ok-second.second, search rules, search rules, search rules, search rules)
