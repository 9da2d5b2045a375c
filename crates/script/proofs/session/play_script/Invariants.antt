use Rattle.std.proofs.Common.{◌≡◌, IfSome}
use Rattle.register.specs.Held.{chart_of, held, top_of}
use Rattle.script.proofs.Halfway.{Halfway}
use Rattle.script.proofs.session.play_script.Given as goal

abbrev pub invariant-loop-played : goal.invariant-loop-played
invariant-loop-played g l = record {
  chart : chart_of l.register ≡ chart_of l.initial.register;
  top : top_of l.register ≡ top_of l.initial.register;
  script : IfSome (g.R.Read.remaining l.fn.input) (λ bs. Halfway g.C.Fault.Display.output (g.C.Chart.meaning (chart_of l.initial.register)) (top_of l.initial.register) bs (held l.initial.register)
      (g.W.Write.contents l.initial.out) (g.R.Read.remaining l.input) l.played (held l.register) l.outcomes (g.W.Write.contents l.out));
}
