use Rattle.std.proofs.Common.{rules}
use Rattle.register.specs.Calls.{counted}
use Rattle.file_registers.proofs.registers.FileRegister.call.Goals as goal

pub returns-in-Two-clause-comes : goal.returns-in-Two-clause-comes
returns-in-Two-clause-comes c = rw c.in-Two.is (record {
  outcome = counted c.call-in-Two.result;
  tells = search rules;
  rule = c.call-in-Two.ensures.rule;
  chart = c.call-in-Two.ensures.chart;
  top = c.call-in-Two.ensures.top;
})
