-- What the two tables of a register stand for.
use Rattle.std.specs.Prelude.{◌≡◌, ℕ, Bool, ◌||◌, nat_lt}
use Rattle.chart.specs.declared.side.Side.{Side}
use Rattle.chart.specs.declared.side.Side.TheVariants.{Upper, Lower}
use Rattle.chart.specs.Tables.{distances}
use Rattle.history.specs.Rules.{State, Phase, resting, side_of, laid, over}
use Rattle.claims.specs.declared.closed.ClosedDraft.{ClosedDraft}
use Rattle.claims.specs.Views.{values_of}
use Rattle.register.specs.declared.tables.Tables.{Tables}

-- the top of both
abbrev pub top_in : Tables → ℕ
top_in ts = (distances ts.upper).top

-- the state of a register with these tables
abbrev pub state : Tables → Phase → State
state ts p = record { upper = (distances ts.upper).entry; lower = (distances ts.lower).entry; phase = p }

-- whether a value may not be claimed beside this entry: an upper one above it, a lower one below it or above the top
abbrev pub unfit : Side → ℕ → ℕ → ℕ → Bool
unfit Upper top entry v = nat_lt entry v
unfit Lower top entry v = nat_lt v entry || nat_lt top v

-- the draft has the table of its side with its claims laid over it
abbrev pub LaidOver : Tables → ClosedDraft → Type 0
LaidOver ts d = distances d.laid ≡ over (top_in ts) (laid (values_of d.claims) (side_of d.claims.side (state ts resting)))
