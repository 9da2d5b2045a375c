-- A history leads to what a register holds, and so every register keeps its promise.
use Rattle.std.proofs.Common.{◌≡◌, Result, sym, subst}
use Rattle.chart.specs.declared.kind.Chart.{Ghosts}
use Rattle.chart.specs.Laws.{Lawful}
use Rattle.history.specs.declared.refusal.Refusal.{Refusal}
use Rattle.history.specs.Calls.{Call, Answer}
use Rattle.history.specs.Rules.{Step}
use Rattle.history.specs.Promises.{HasHistory, KeepsPromise}
use Rattle.history.proofs.Histories.{stepped}
use Rattle.history.proofs.Promises.{keeps_promise}
use Rattle.register.specs.declared.contents.Contents.{Contents}
use Rattle.register.specs.declared.register.Register.{Register}
use Rattle.register.specs.Contents.{held_in, top_within}
use Rattle.register.specs.Held.{chart_of, held, top_of}

module _ {C F : Type 0} {G : Ghosts C F} where
  -- a call leads on
  pub led : (before after : Contents C F G) {c : Call} {o : Result Answer (Refusal F)} → HasHistory (G.meaning before.chart) (top_within before) (held_in before)
      → after.chart ≡ before.chart → top_within after ≡ top_within before → Step (G.meaning before.chart) (top_within before) (held_in before) c o (held_in after)
      → HasHistory (G.meaning after.chart) (top_within after) (held_in after)
  led before after had chart top step =
      subst (λ x. HasHistory (G.meaning x) (top_within after) (held_in after)) (sym chart) (stepped _ _ _ top had step)

  pub kept_by : (k : Contents C F G) → Lawful (G.meaning k.chart) → HasHistory (G.meaning k.chart) (top_within k) (held_in k) → KeepsPromise (G.meaning k.chart) (top_within k) (held_in k)
  kept_by k lawful had = let top = k.tables.upper.top in keeps_promise _ lawful _ (top.least, top.most) _ had

  pub kept : (r : Register C F G) → Lawful (G.meaning (chart_of r)) → KeepsPromise (G.meaning (chart_of r)) (top_of r) (held r)
  kept r lawful = kept_by r.contents lawful r.reached
