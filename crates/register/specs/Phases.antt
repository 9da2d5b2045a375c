-- What a register's phase stands for.
use Rattle.std.specs.Prelude.{◌≡◌, ℕ}
use Rattle.history.specs.Rules
use Rattle.history.specs.Rules.{resting, claiming, showing}
use Rattle.claims.specs.declared.closed.ClosedDraft.{ClosedDraft}
use Rattle.claims.specs.Views.{values_of, marks_of, highest}
use Rattle.register.specs.declared.phase.Phase.{Phase}
use Rattle.register.specs.declared.phase.Phase.TheVariants.{Resting, Claiming, Showing}
use Rattle.register.specs.declared.tables.Tables.{Tables}
use Rattle.register.specs.Tables.{LaidOver}

abbrev pub phase_of : Phase → Rules.Phase
phase_of Resting = resting
phase_of (Claiming c) = claiming c.side (values_of c)
phase_of (Showing d) = showing d.claims.side (values_of d.claims) (marks_of d)

-- the greatest value that the draft claims, 0 where there is none
abbrev pub highest_in : Phase → ℕ
highest_in Resting = 0
highest_in (Claiming c) = highest c.values
highest_in (Showing d) = highest d.claims.values

-- a draft that takes showings has the table in which they are weighed
abbrev pub Laid : Tables → Phase → Type 0
Laid ts p = (d : ClosedDraft) → p ≡ Showing d → LaidOver ts d
