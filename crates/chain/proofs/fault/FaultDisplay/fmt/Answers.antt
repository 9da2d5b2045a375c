use Rattle.chain.proofs.fault.FaultDisplay.fmt.Goals as goal

pub returns-in-Unjudged-clause-writes : goal.returns-in-Unjudged-clause-writes
returns-in-Unjudged-clause-writes g c = rw c.in-Unjudged.is c.write.ensures.writes

pub returns-in-PairingCount-clause-writes : goal.returns-in-PairingCount-clause-writes
returns-in-PairingCount-clause-writes g c = rw c.in-PairingCount.is c.write-in-PairingCount.ensures.writes

pub returns-in-Section-clause-writes : goal.returns-in-Section-clause-writes
returns-in-Section-clause-writes g c = rw c.in-Section.is c.write-in-Section.ensures.writes

pub returns-in-Amount-clause-writes : goal.returns-in-Amount-clause-writes
returns-in-Amount-clause-writes g c = rw c.in-Amount.is c.write-in-Amount.ensures.writes

pub returns-in-FirstMargin-clause-writes : goal.returns-in-FirstMargin-clause-writes
returns-in-FirstMargin-clause-writes g c = rw c.in-FirstMargin.is c.write-in-FirstMargin.ensures.writes

pub returns-in-SecondMargin-clause-writes : goal.returns-in-SecondMargin-clause-writes
returns-in-SecondMargin-clause-writes g c = rw c.in-SecondMargin.is c.write-in-SecondMargin.ensures.writes

pub returns-in-PotentialsCount-clause-writes : goal.returns-in-PotentialsCount-clause-writes
returns-in-PotentialsCount-clause-writes g c = rw c.in-PotentialsCount.is c.write-in-PotentialsCount.ensures.writes

pub returns-in-Range-clause-writes : goal.returns-in-Range-clause-writes
returns-in-Range-clause-writes g c = rw c.in-Range.is c.write-in-Range.ensures.writes

pub returns-in-Above-clause-writes : goal.returns-in-Above-clause-writes
returns-in-Above-clause-writes g c = rw c.in-Above.is c.write-in-Above.ensures.writes
