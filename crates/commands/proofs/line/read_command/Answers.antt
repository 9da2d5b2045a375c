use Rattle.std.proofs.Common.{rules, ◌≡◌, [], Ok, ◌∙◌, sym, inr}
use Rattle.std.proofs.lemmas.Result.{err_from_is_err_and}
use Rattle.lines.specs.Fields.{fields}
use Rattle.commands.specs.Reading.{command_read}
use Rattle.commands.proofs.line.read_command.Goals as goal

pub returns-in_ok-no_more-clause-reads : goal.returns-in_ok-no_more-clause-reads
returns-in_ok-no_more-clause-reads c =
    let e = c.in_ok-no_more.ensures c.in_ok-command.command in
    let read : command_read c.args.name (fields c.args.bytes.now) ≡ Ok (c.in_ok-command.command, []) = c.in_ok-command.ensures ∙ rw (sym c.if-takes_words.ensures) e in
    search rules

pub returns-in_err-no_more-clause-reads : goal.returns-in_err-no_more-clause-reads
returns-in_err-no_more-clause-reads c =
    let e = c.in_err-no_more.ensures c.in_ok-command.command in
    let p = err_from_is_err_and c.from_residual-in_err-no_more.result c.from_residual-in_err-no_more.ensures.1 in
    rw (p.1, p.2) (inr (c.in_ok-command.ensures ∙ rw (sym c.if-takes_words.ensures) e))
