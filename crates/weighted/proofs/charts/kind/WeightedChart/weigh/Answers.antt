use Rattle.chain.proofs.Couplings.{couplings_bound}
use Rattle.chain.proofs.Laws.{nowhere_raised}
use Rattle.chain.proofs.Listing.{couplings_listed}
use Rattle.weighted.specs.View.{chain}
use Rattle.weighted.specs.Soundness.{sound}
use Rattle.weighted.proofs.charts.kind.WeightedChart.weigh.Goals as goal

pub returns-in-Upper-clause-supported : goal.returns-in-Upper-clause-supported
returns-in-Upper-clause-supported c = nowhere_raised (chain c.args.self.now) (sound c.args.self.now)

pub returns-in-Upper-clause-bounded : goal.returns-in-Upper-clause-bounded
returns-in-Upper-clause-bounded c = couplings_bound (chain c.args.self.now) (sound c.args.self.now)

pub returns-in-Upper-clause-listed : goal.returns-in-Upper-clause-listed
returns-in-Upper-clause-listed c = couplings_listed (chain c.args.self.now) (sound c.args.self.now)

pub returns-in-Lower-clause-supported : goal.returns-in-Lower-clause-supported
returns-in-Lower-clause-supported c = nowhere_raised (chain c.args.self.now) (sound c.args.self.now)

pub returns-in-Lower-clause-bounded : goal.returns-in-Lower-clause-bounded
returns-in-Lower-clause-bounded c = couplings_bound (chain c.args.self.now) (sound c.args.self.now)

pub returns-in-Lower-clause-listed : goal.returns-in-Lower-clause-listed
returns-in-Lower-clause-listed c = couplings_listed (chain c.args.self.now) (sound c.args.self.now)
