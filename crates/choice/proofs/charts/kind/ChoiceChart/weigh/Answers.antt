use Rattle.transitions.proofs.Hausdorff.{supported_is_not_raised}
use Rattle.transitions.proofs.Registers.{registers_bound, settled_is_distance}
use Rattle.choice.specs.View.{system}
use Rattle.choice.specs.Soundness.{sound}
use Rattle.choice.proofs.charts.kind.ChoiceChart.weigh.Goals as goal

pub returns-in-Upper-clause-supported : goal.returns-in-Upper-clause-supported
returns-in-Upper-clause-supported c = supported_is_not_raised (system c.args.self.now) (sound c.args.self.now)

pub returns-in-Upper-clause-bounds : goal.returns-in-Upper-clause-bounds
returns-in-Upper-clause-bounds c = registers_bound (system c.args.self.now) (sound c.args.self.now)

pub returns-in-Upper-clause-settled : goal.returns-in-Upper-clause-settled
returns-in-Upper-clause-settled c = settled_is_distance (system c.args.self.now) (sound c.args.self.now)

pub returns-in-Lower-clause-supported : goal.returns-in-Lower-clause-supported
returns-in-Lower-clause-supported c = supported_is_not_raised (system c.args.self.now) (sound c.args.self.now)

pub returns-in-Lower-clause-bounds : goal.returns-in-Lower-clause-bounds
returns-in-Lower-clause-bounds c = registers_bound (system c.args.self.now) (sound c.args.self.now)

pub returns-in-Lower-clause-settled : goal.returns-in-Lower-clause-settled
returns-in-Lower-clause-settled c = settled_is_distance (system c.args.self.now) (sound c.args.self.now)
