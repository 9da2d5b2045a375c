use Rattle.std.proofs.Common.{◌≡◌, Some, sym, refl, ap, ◌∙◌, arith}
use Rattle.std.proofs.lemmas.Result.{err_from_is_err_and}
use Rattle.claims.specs.declared.draft.Claims.{Claims}
use Rattle.claims.specs.Views.{values_of}
use Rattle.register.specs.Tables.{top_in}
use Rattle.register.proofs.Steps.{inside_both, show_fault, show_answers}
use Rattle.register.proofs.drafts.showing.show.Goals as goal

pub returns-in_err-bound-clause-rule : goal.returns-in_err-bound-clause-rule
returns-in_err-bound-clause-rule g c = λ ts over.
    let m = g.C.Chart.meaning c.args.chart.now in
    let i = inside_both m (top_in ts) _ _ c.if-not-has_both.ensures in
    let p = err_from_is_err_and c.from_residual.result c.from_residual.ensures.1 in
    let is : values_of c.args.draft.now.claims c.args.s c.args.t ≡ Some c.in-Some.value = sym (rw c.claims-claims.ensures at c.value.ensures) ∙ c.in-Some.is in
    let weighed = rw over at c.weigh.ensures in
    rw (p.1, p.2) (show_fault m _ _ _ _ _ refl _ _ _ i c.in-Some.value is (sym c.if-is_shown.ensures) _ (sym weighed ∙ c.in_err-bound.was))

pub returns-clause-rule : goal.returns-clause-rule
returns-clause-rule g c = λ ts over.
    let m = g.C.Chart.meaning c.args.chart.now in
    let i = inside_both m (top_in ts) _ _ c.if-not-has_both.ensures in
    let is : values_of c.args.draft.now.claims c.args.s c.args.t ≡ Some c.in-Some.value = sym (rw c.claims-claims.ensures at c.value.ensures) ∙ c.in-Some.is in
    let side = c.side-side.ensures ∙ ap (λ (d : Claims). d.side) c.claims-claims.ensures in
    let weighed = rw over at c.weigh.ensures in
    let most = (g.met.C.Chart.lawful c.args.chart.now).sections_most in
    let marked = c.mark.ensures.inside (omega (arith, i, most)) (omega (arith, i, most)) in
    rw c.mark.ensures.claims (show_answers m _ _ _ _ _ refl _ _ _ i c.in-Some.value is (sym c.if-is_shown.ensures) c.in_ok-bound.bound (sym weighed ∙ c.in_ok-bound.was)
    c.side-side.result _ _ side c.if-falls_short.ensures marked (rw c.mark.ensures.claims at c.left.ensures))
