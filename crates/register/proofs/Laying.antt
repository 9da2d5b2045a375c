-- Claims laid over the table of their side.
use Rattle.std.proofs.Common.{◌≡◌, ◌≤◌, ap, ◌∙◌, arith}
use Rattle.chart.specs.declared.side.Side.{Side}
use Rattle.chart.specs.declared.table.Table.{Table}
use Rattle.chart.specs.Distances.{Distances}
use Rattle.chart.specs.Tables.{distances, overlaid}
use Rattle.history.specs.Rules.{resting, laid, over, side_of}
use Rattle.claims.specs.declared.closed.ClosedDraft.{ClosedDraft}
use Rattle.claims.specs.declared.draft.Claims.{Claims}
use Rattle.claims.specs.Views.{values_of, highest}
use Rattle.claims.proofs.Grids.{laid_within}
use Rattle.register.specs.declared.tables.Tables.{Tables}
use Rattle.register.specs.Tables.{top_in, state, LaidOver}

pub laid_at_close : (ts : Tables) (c : Claims) (e : Side) (table : Table) (d : ClosedDraft) → highest c.values ≤ top_in ts → e ≡ c.side
    → distances table ≡ over (top_in ts) (side_of e (state ts resting)) → d.claims ≡ c → distances d.laid ≡ overlaid c.values (distances table) → LaidOver ts d
laid_at_close ts c e table d within es at same is =
    let top : (distances table).top ≡ top_in ts = ap (λ (x : Distances). x.top) at in
    rw (same, is)
    (laid_within c.values table (omega (arith, top, within))
    ∙ ap (λ (x : Distances). over x.top (laid (values_of c) x.entry)) at
    ∙ ap (λ x. over (top_in ts) (laid (values_of c) (side_of x (state ts resting)))) es)
