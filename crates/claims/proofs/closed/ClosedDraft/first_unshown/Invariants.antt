use Rattle.std.proofs.Common.{◌≡◌, ℕ, ◌<◌, false}
use Rattle.claims.specs.Views.{values_of, marks_of}
use Rattle.claims.specs.Scan.{waits}
use Rattle.claims.proofs.closed.ClosedDraft.first_unshown.Given as goal

abbrev pub invariant-loop-t : goal.invariant-loop-t
invariant-loop-t l = (y : ℕ) → y < l.t → waits (values_of l.self.claims) (marks_of l.self) l.s y ≡ false

abbrev pub invariant-loop-s : goal.invariant-loop-s
invariant-loop-s l = (x y : ℕ) → x < l.s → y < 32 → waits (values_of l.self.claims) (marks_of l.self) x y ≡ false
