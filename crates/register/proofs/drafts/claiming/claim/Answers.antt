use Rattle.std.proofs.Common.{is_some, sym, refl, ap, ◌∙◌, arith}
use Rattle.history.specs.Rules.{claiming}
use Rattle.claims.specs.Views.{values_of}
use Rattle.register.specs.Tables.{top_in}
use Rattle.register.proofs.Steps.{inside_both, claim_twice, claim_unfit, claim_answers}
use Rattle.register.proofs.Values.{none_of, tested_unfit, tested_fits}
use Rattle.register.proofs.drafts.claiming.claim.Goals as goal

pub returns-then-is_some-clause-rule : goal.returns-then-is_some-clause-rule
returns-then-is_some-clause-rule g c =
    let m = g.C.Chart.meaning c.args.chart.now in
    let i = inside_both m (top_in c.args.tables.now) _ _ c.if-not-has_both.ensures in
    claim_twice m _ _ _ _ refl _ _ _ i (sym c.if-apart.ensures) (sym (c.if-is_some.ensures ∙ ap is_some c.value.ensures))

pub returns-then-unfit-clause-rule : goal.returns-then-unfit-clause-rule
returns-then-unfit-clause-rule g c =
    let m = g.C.Chart.meaning c.args.chart.now in
    let ts = c.args.tables.now in
    let d = c.args.claims.now in
    let i = inside_both m (top_in ts) _ _ c.if-not-has_both.ensures in
    let none = none_of _ (c.if-is_some.ensures ∙ ap is_some c.value.ensures) in
    claim_unfit m _ _ _ _ refl _ _ _ i (sym c.if-apart.ensures) none (tested_unfit m ts (claiming d.side (values_of d)) _ _ _ _ _ c.side.ensures c.if-unfit.ensures)

pub returns : goal.returns
returns g c =
    let m = g.C.Chart.meaning c.args.chart.now in
    let ts = c.args.tables.now in
    let d = c.args.claims.now in
    let i = inside_both m (top_in ts) _ _ c.if-not-has_both.ensures in
    let together = sym c.if-apart.ensures in
    let none = none_of _ (c.if-is_some.ensures ∙ ap is_some c.value.ensures) in
    let fits = tested_fits m ts (claiming d.side (values_of d)) c.args.s c.args.t c.args.value _ _ c.side.ensures (record { first_in = i.0; second_in = i.1; together = together }) c.if-unfit.ensures in
    let most = (g.met.C.Chart.lawful c.args.chart.now).sections_most in
    record {
      rule = claim_answers m _ _ _ _ refl _ _ _ i together none _ _ _ fits c.put.ensures.same (c.put.ensures.inside (omega (arith, i, most)) (omega (arith, i, most))) c.count.ensures;
      within = omega (arith, c.put.ensures.most, fits.top);
      unchanged = tt;
    }
