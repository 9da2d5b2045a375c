use Rattle.std.proofs.Common.{◌≡◌, ◌≤◌, ◌+◌, [], ◌∷◌, ◌++◌, None, Some, sym, refl, ◌∙◌, inl, inr, length-append, arith, vec_items, vec_len, vec_capacity}
use Rattle.std.proofs.lemmas.Grind.{common_steps}
use Rattle.std.proofs.lemmas.Result.{err_from_is_err_and}
use Rattle.lines.specs.Fields.{fields}
use Rattle.lines.specs.Numerals.{word_of}
use Rattle.lines.proofs.Words.{words_more, words_wrong, words_all, kept}
use Rattle.lines.proofs.parts.read_words.Goals as goal

pub returns-in_err-word-clause-reads : goal.returns-in_err-word-clause-reads
returns-in_err-word-clause-reads c =
    let p = err_from_is_err_and c.from_residual.result c.from_residual.ensures.1 in
    let none : word_of c.in-Some.field.now ≡ None = grind arith in
    rw (p.1, p.2) (inr (sym c.loop-field.invariant.1 ∙ words_wrong _ _ _ _ _ c.in-Some.ensures.0 none ∙ grind arith))

pub loop-field-preserved : goal.loop-field-preserved
loop-field-preserved c = grind (arith, common_steps, words_more)

pub returns-clause-reads : goal.returns-clause-reads
returns-clause-reads c = grind (arith, common_steps, words_all)

pub returns-in_err-push-clause-reads : goal.returns-in_err-push-clause-reads
returns-in_err-push-clause-reads c =
    let p = err_from_is_err_and c.from_residual-in_err-push.result c.from_residual-in_err-push.ensures.1 in
    let some : word_of c.in-Some.field.now ≡ Some c.in_ok-word.word = grind arith in
    let full : vec_capacity c.args.words.now ≤ vec_len c.loop-field.words = grind (arith, common_steps) in
    let more = words_more (vec_items c.loop-field.words) (vec_len c.loop-field.words) _ _ _ _ c.in-Some.ensures.0 some in
    let long = kept (vec_items c.loop-field.words ++ c.in_ok-word.word ∷ []) (vec_len c.loop-field.words + 1) (fields c.in-Some.after.now) (grind (arith, length-append)) in
    rw (p.1, p.2) (inl (refl, grind (arith, length-append)))

pub returns-in_err-word-clause-few : goal.returns-in_err-word-clause-few
returns-in_err-word-clause-few c = rw (← c.loop-field.invariant.1) (kept (vec_items c.loop-field.words) _ (fields c.loop-field.rest.now) (grind arith))

pub returns-in_err-push-clause-few : goal.returns-in_err-push-clause-few
returns-in_err-push-clause-few c = rw (← c.loop-field.invariant.1) (grind (arith, common_steps, kept (vec_items c.loop-field.words) (vec_len c.loop-field.words) (fields c.loop-field.rest.now)))

pub returns-clause-few : goal.returns-clause-few
returns-clause-few c = rw (← c.loop-field.invariant.1) (kept (vec_items c.loop-field.words) _ (fields c.loop-field.rest.now) (grind arith))
