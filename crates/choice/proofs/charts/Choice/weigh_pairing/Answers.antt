use Rattle.std.proofs.Common.{◌≤◌, sym, ◌∙◌, arith}
use Rattle.std.proofs.lemmas.Result.{err_from_is_err_and}
use Rattle.std.proofs.lemmas.Bool.Decides.{nat_tests}
use Rattle.finite.proofs.Sums.{greatest_is}
use Rattle.chart.specs.Tables.{distances}
use Rattle.chart.proofs.Bounds.{entry_most}
use Rattle.transitions.specs.Pairing.{left, right, pairs}
use Rattle.transitions.proofs.Exits.{upper_unjudged, upper_count, upper_word, upper_first, upper_second, upper_valid}
use Rattle.choice.proofs.Marks.{same_search}
use Rattle.choice.proofs.charts.Choice.weigh_pairing.Goals as goal

pub returns-then-is_unjudged : goal.returns-then-is_unjudged
returns-then-is_unjudged c = sym (upper_unjudged _ (distances c.args.d.now) _ _ _ (sym c.if-is_unjudged.ensures))

pub returns-then-wrong_count : goal.returns-then-wrong_count
returns-then-wrong_count c = sym (upper_count _ (distances c.args.d.now) _ _ _ (sym c.if-is_unjudged.ensures) (sym c.if-wrong_count.ensures))

pub gather-requires : goal.gather-requires
gather-requires c = let h = c.if-wrong_count.ensures in grind (arith, nat_tests)

pub returns-in_err-left : goal.returns-in_err-left
returns-in_err-left c =
    let p = err_from_is_err_and c.from_residual.result c.from_residual.ensures.1 in
    rw (p.1, p.2) (sym (upper_word _ (distances c.args.d.now) _ _ _ (sym c.if-is_unjudged.ensures) (sym c.if-wrong_count.ensures) _ c.in_err-left.ensures))

pub returns-in-Some : goal.returns-in-Some
returns-in-Some c =
    let w = c.args.self.now in
    let g = c.in_ok-left.ensures in
    sym (upper_first _ (distances c.args.d.now) _ _ _ (sym c.if-is_unjudged.ensures) (sym c.if-wrong_count.ensures) g.good _ (same_search w c.args.s _ c.mask.ensures c.args.words.now left _ g.lefts ∙ sym c.in-Some.ensures))

pub returns-in-Some-find_unpaired : goal.returns-in-Some-find_unpaired
returns-in-Some-find_unpaired c =
    let w = c.args.self.now in
    let g = c.in_ok-left.ensures in
    sym (upper_second _ (distances c.args.d.now) _ _ _ (sym c.if-is_unjudged.ensures) (sym c.if-wrong_count.ensures) g.good
    (same_search w c.args.s _ c.mask.ensures c.args.words.now left _ g.lefts ∙ sym c.in_default.ensures) _
    (same_search w c.args.t _ c.mask-2.ensures c.args.words.now right _ g.rights ∙ sym c.in-Some-find_unpaired.ensures))

pub round_up-requires : goal.round_up-requires
round_up-requires c =
    let d = c.args.d.now in
    let ws = c.args.words.now in
    rw c.in_ok-left.ensures.most (greatest_is (λ m. m ≤ 1000000000) (pairs ws) _ (omega arith) (λ j l. entry_most d (left ws j) (right ws j)))

pub returns : goal.returns
returns c =
    let w = c.args.self.now in
    let g = c.in_ok-left.ensures in
    rw (c.round_up.ensures, g.most)
    (sym (upper_valid _ (distances c.args.d.now) _ _ _ (sym c.if-is_unjudged.ensures) (sym c.if-wrong_count.ensures) g.good
    (same_search w c.args.s _ c.mask.ensures c.args.words.now left _ g.lefts ∙ sym c.in_default.ensures)
    (same_search w c.args.t _ c.mask-2.ensures c.args.words.now right _ g.rights ∙ sym c.in_default-find_unpaired.ensures)))
