use Rattle.history.proofs.Lines.{two_carried}
use Rattle.history.proofs.refusal.RefusalDisplay.fmt.Goals as goal

pub returns-in-Unshown-clause-writes : goal.returns-in-Unshown-clause-writes
returns-in-Unshown-clause-writes g c = rw c.in-Unshown.is (rw (two_carried c.in-Unshown.s c.in-Unshown.t _) (rw (c.number-number.ensures, c.in-Unshown.is) at c.write-in-Unshown.ensures.writes))

pub returns-in-NotResting-clause-writes : goal.returns-in-NotResting-clause-writes
returns-in-NotResting-clause-writes g c = rw c.in-NotResting.is (rw (c.number-number.ensures, c.in-NotResting.is) at c.explain.ensures)

pub returns-in-NotClaiming-clause-writes : goal.returns-in-NotClaiming-clause-writes
returns-in-NotClaiming-clause-writes g c = rw c.in-NotClaiming.is (rw (c.number-number.ensures, c.in-NotClaiming.is) at c.explain-in-NotClaiming.ensures)

pub returns-in-ClaimOutside-clause-writes : goal.returns-in-ClaimOutside-clause-writes
returns-in-ClaimOutside-clause-writes g c = rw c.in-ClaimOutside.is (rw (c.number-number.ensures, c.in-ClaimOutside.is) at c.explain-in-ClaimOutside.ensures)

pub returns-in-ClaimApart-clause-writes : goal.returns-in-ClaimApart-clause-writes
returns-in-ClaimApart-clause-writes g c = rw c.in-ClaimApart.is (rw (c.number-number.ensures, c.in-ClaimApart.is) at c.explain-in-ClaimApart.ensures)

pub returns-in-ClaimedTwice-clause-writes : goal.returns-in-ClaimedTwice-clause-writes
returns-in-ClaimedTwice-clause-writes g c = rw c.in-ClaimedTwice.is (rw (c.number-number.ensures, c.in-ClaimedTwice.is) at c.explain-in-ClaimedTwice.ensures)

pub returns-in-ClaimValue-clause-writes : goal.returns-in-ClaimValue-clause-writes
returns-in-ClaimValue-clause-writes g c = rw c.in-ClaimValue.is (rw (c.number-number.ensures, c.in-ClaimValue.is) at c.explain-in-ClaimValue.ensures)

pub returns-in-CloseNotClaiming-clause-writes : goal.returns-in-CloseNotClaiming-clause-writes
returns-in-CloseNotClaiming-clause-writes g c = rw c.in-CloseNotClaiming.is (rw (c.number-number.ensures, c.in-CloseNotClaiming.is) at c.explain-in-CloseNotClaiming.ensures)

pub returns-in-NoClaims-clause-writes : goal.returns-in-NoClaims-clause-writes
returns-in-NoClaims-clause-writes g c = rw c.in-NoClaims.is (rw (c.number-number.ensures, c.in-NoClaims.is) at c.explain-in-NoClaims.ensures)

pub returns-in-NotShowing-clause-writes : goal.returns-in-NotShowing-clause-writes
returns-in-NotShowing-clause-writes g c = rw c.in-NotShowing.is (rw (c.number-number.ensures, c.in-NotShowing.is) at c.explain-in-NotShowing.ensures)

pub returns-in-ShowOutside-clause-writes : goal.returns-in-ShowOutside-clause-writes
returns-in-ShowOutside-clause-writes g c = rw c.in-ShowOutside.is (rw (c.number-number.ensures, c.in-ShowOutside.is) at c.explain-in-ShowOutside.ensures)

pub returns-in-NoClaim-clause-writes : goal.returns-in-NoClaim-clause-writes
returns-in-NoClaim-clause-writes g c = rw c.in-NoClaim.is (rw (c.number-number.ensures, c.in-NoClaim.is) at c.explain-in-NoClaim.ensures)

pub returns-in-ShownAlready-clause-writes : goal.returns-in-ShownAlready-clause-writes
returns-in-ShownAlready-clause-writes g c = rw c.in-ShownAlready.is (rw (c.number-number.ensures, c.in-ShownAlready.is) at c.explain-in-ShownAlready.ensures)

pub returns-in-EnterNotShowing-clause-writes : goal.returns-in-EnterNotShowing-clause-writes
returns-in-EnterNotShowing-clause-writes g c = rw c.in-EnterNotShowing.is (rw (c.number-number.ensures, c.in-EnterNotShowing.is) at c.explain-in-EnterNotShowing.ensures)

pub returns-in-Resting-clause-writes : goal.returns-in-Resting-clause-writes
returns-in-Resting-clause-writes g c = rw c.in-Resting.is (rw (c.number-number.ensures, c.in-Resting.is) at c.explain-in-Resting.ensures)

pub returns-in-AskOutside-clause-writes : goal.returns-in-AskOutside-clause-writes
returns-in-AskOutside-clause-writes g c = rw c.in-AskOutside.is (rw (c.number-number.ensures, c.in-AskOutside.is) at c.explain-in-AskOutside.ensures)
