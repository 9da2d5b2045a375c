use Rattle.std.proofs.Common.{subst, sym, ap, ◌∙◌, arith}
use Rattle.std.specs.Io.KnownBytes.{Appends}
use Rattle.std.proofs.lemmas.List.{take_more}
use Rattle.script.specs.Lines.{rows_text}
use Rattle.script.proofs.Written.{appends_more, rows_push}
use Rattle.script.proofs.writing.write_rows.Goals as goal

pub loop-row-preserved : goal.loop-row-preserved
loop-row-preserved g c =
    let rows = c.args.rows.now in
    let i = c.loop-row.row-index in
    subst
    (λ bs. Appends (g.W.Write.contents c.args.out.now) (g.W.Write.contents c.writeln.new.self) bs)
    (sym (ap rows_text (take_more rows i _ (omega arith)) ∙ rows_push _ _))
    (appends_more _ _ _ _ _ c.loop-row.invariant c.in_ok-writeln.ensures.bytes)
