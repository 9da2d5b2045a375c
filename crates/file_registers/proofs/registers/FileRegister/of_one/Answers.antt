use Rattle.std.proofs.Common.{◌≡◌, rules}
use Rattle.std.proofs.lemmas.Result.{err_from_is_err_and}
use Rattle.file_registers.specs.declared.registers.NotMade.TheVariants.{Top}
use Rattle.file_registers.proofs.registers.FileRegister.of_one.Goals as goal

pub returns-in_err-top-clause-made : goal.returns-in_err-top-clause-made
returns-in_err-top-clause-made c =
    let p = err_from_is_err_and c.from_residual-in_err-top.result c.from_residual-in_err-top.ensures.1 in
    let is : c.in_err-top.field-0.0 ≡ Top = search rules in
    rw (p.1, p.2, is) (c.in_ok-chart.chart, search rules, search rules)
