use Rattle.std.proofs.Common.{◌≡◌, true, false, refl, ap, ◌∙◌, rules}
use Rattle.std.proofs.lemmas.Result.{err_from_is_err_and}
use Rattle.register.specs.Held.{held}
use Rattle.register.proofs.Kept.{kept}
use Rattle.script.proofs.Halfway.{all_left, if_some, line_played, stops, done, outcomes_are, same_line}
use Rattle.script.proofs.session.play_script.Goals as goal

pub loop-played-init : goal.loop-played-init
loop-played-init g c = record {
  chart = refl;
  top = refl;
  script =
      rw (outcomes_are c.default-outcomes.result _ _ c.default-outcomes.ensures.0 c.default-outcomes.ensures.1)
      (all_left _ _ _ _ _ (g.R.Read.remaining c.args.input));
}

pub loop-played-preserved : goal.loop-played-preserved
loop-played-preserved g c =
    let i = c.loop-played.invariant in
    let more : c.in_ok-next_line.field-0 ≡ true = search rules in
    let read = rw (c.in_ok-next_line.was, more) at c.next_line.ensures in
    let wrote = rw (c.in_ok-play_line.was, c.as_slice.ensures.value) at c.play_line.ensures.line in
    record {
      chart = c.play_line.ensures.chart ∙ i.chart;
      top = c.play_line.ensures.top ∙ i.top;
      script = if_some (g.R.Read.remaining c.args.input) (λ bs h. line_played _ _ _ bs _ _ _ _ _ _ _ _ h _ read wrote.0 _ _ _ _ (search rules) (same_line _ _ _ _ _ _ _ _ _ _ _ (ap g.C.Chart.meaning i.chart) i.top wrote.1) wrote.2) i.script;
    }

pub returns-in_err-next_line-clause-promise : goal.returns-in_err-next_line-clause-promise
returns-in_err-next_line-clause-promise g c = kept c.loop-played.register (g.met.C.Chart.lawful _)

pub returns-in_err-play_line-clause-promise : goal.returns-in_err-play_line-clause-promise
returns-in_err-play_line-clause-promise g c = kept c.play_line.new.register (g.met.C.Chart.lawful _)

pub returns-then-not-branch-clause-promise : goal.returns-then-not-branch-clause-promise
returns-then-not-branch-clause-promise g c = kept c.loop-played.register (g.met.C.Chart.lawful _)

pub returns-clause-promise : goal.returns-clause-promise
returns-clause-promise g c = kept c.loop-played.register (g.met.C.Chart.lawful _)

pub returns-then-not-branch-clause-script : goal.returns-then-not-branch-clause-script
returns-then-not-branch-clause-script g c =
    let none : c.in_ok-next_line.field-0 ≡ false = search rules in
    let ended = rw (c.in_ok-next_line.was, none) at c.next_line.ensures in
    if_some (g.R.Read.remaining c.args.input) (λ bs h. done _ _ _ bs _ _ _ _ _ _ _ h ended) c.loop-played.invariant.script

pub returns-in_err-play_line-clause-script : goal.returns-in_err-play_line-clause-script
returns-in_err-play_line-clause-script g c =
    let i = c.loop-played.invariant in
    let more : c.in_ok-next_line.field-0 ≡ true = search rules in
    let read = rw (c.in_ok-next_line.was, more) at c.next_line.ensures in
    let stop = err_from_is_err_and c.from_residual-in_err-play_line.result c.from_residual-in_err-play_line.ensures.1 in
    let malformed = rw (c.in_err-play_line.was, c.as_slice.ensures.value) at c.play_line.ensures.malformed in
    rw (stop.1, stop.2)
    (if_some (g.R.Read.remaining c.args.input) (λ bs h. stops _ _ _ bs _ _ _ _ _ _ _ _ h _ read _ _ _ _ (search rules) malformed (λ u. (ap held u.0, ap g.W.Write.contents u.2))) i.script)
