use Rattle.std.proofs.Common.{rules, ◌≡◌, Some, None, Ok, sym}
use Rattle.script.specs.Lines.{outcome_line}
use Rattle.script.specs.Session.{passed, played}
use Rattle.script.proofs.Written.{appends_none}
use Rattle.script.proofs.Halfway.{read_is, outcomes_are}
use Rattle.script.proofs.session.play_line.Goals as goal

pub returns-in_ok-write_outcome-clause-line : goal.returns-in_ok-write_outcome-clause-line
returns-in_ok-write_outcome-clause-line g c =
    let read : c.read_line.result ≡ Ok (Some c.in-Some.command) = search rules in
    let line = read_is _ _ _ c.args.line.now read c.read_line.ensures.reads in
    let plays = c.play-outcome.ensures.plays in (
      outcome_line g.C.Fault.Display.output c.in-Some.command c.play-outcome.result,
      rw (outcomes_are c.count.new.self _ _ c.count.ensures.accepted c.count.ensures.refused) (played c.in-Some.command c.read_line.new.words.items c.play-outcome.result (sym line) (rw c.as_slice.ensures.value at plays)),
      rw c.in_ok-write_outcome.was at c.write_outcome.ensures,
    )

pub returns-in_default-clause-line : goal.returns-in_default-clause-line
returns-in_default-clause-line g c =
    let read : c.read_line.result ≡ Ok None = search rules in
    (_, passed (sym (read_is _ _ _ c.args.line.now read c.read_line.ensures.reads)), appends_none _)
