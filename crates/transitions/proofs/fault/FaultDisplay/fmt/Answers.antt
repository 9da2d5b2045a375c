use Rattle.transitions.proofs.fault.FaultDisplay.fmt.Goals as goal

pub returns-in-Unjudged-clause-writes : goal.returns-in-Unjudged-clause-writes
returns-in-Unjudged-clause-writes g c = rw c.in-Unjudged.is c.write.ensures.writes

pub returns-in-PairingCount-clause-writes : goal.returns-in-PairingCount-clause-writes
returns-in-PairingCount-clause-writes g c = rw c.in-PairingCount.is c.write-in-PairingCount.ensures.writes

pub returns-in-NoSuccessor-clause-writes : goal.returns-in-NoSuccessor-clause-writes
returns-in-NoSuccessor-clause-writes g c = rw c.in-NoSuccessor.is c.write-in-NoSuccessor.ensures.writes

pub returns-in-FirstUnpaired-clause-writes : goal.returns-in-FirstUnpaired-clause-writes
returns-in-FirstUnpaired-clause-writes g c = rw c.in-FirstUnpaired.is c.write-in-FirstUnpaired.ensures.writes

pub returns-in-SecondUnpaired-clause-writes : goal.returns-in-SecondUnpaired-clause-writes
returns-in-SecondUnpaired-clause-writes g c = rw c.in-SecondUnpaired.is c.write-in-SecondUnpaired.ensures.writes

pub returns-in-PotentialsCount-clause-writes : goal.returns-in-PotentialsCount-clause-writes
returns-in-PotentialsCount-clause-writes g c = rw c.in-PotentialsCount.is c.write-in-PotentialsCount.ensures.writes

pub returns-in-NoSide-clause-writes : goal.returns-in-NoSide-clause-writes
returns-in-NoSide-clause-writes g c = rw c.in-NoSide.is c.write-in-NoSide.ensures.writes

pub returns-in-NoSection-clause-writes : goal.returns-in-NoSection-clause-writes
returns-in-NoSection-clause-writes g c = rw c.in-NoSection.is c.write-in-NoSection.ensures.writes

pub returns-in-NoFloor-clause-writes : goal.returns-in-NoFloor-clause-writes
returns-in-NoFloor-clause-writes g c = rw c.in-NoFloor.is c.write-in-NoFloor.ensures.writes

pub returns-in-Below-clause-writes : goal.returns-in-Below-clause-writes
returns-in-Below-clause-writes g c = rw c.in-Below.is c.write-in-Below.ensures.writes
