use Rattle.std.proofs.Common.{◌≡◌, ℕ, not, eqb, List, [], take, length, get_or, sym, refl, ◌∙◌, rules, arith}
use Rattle.std.specs.List.{zip}
use Rattle.std.proofs.lemmas.Iterator.{YieldsList-from_slice, YieldsList-from_zip}
use Rattle.std.proofs.lemmas.Iterator.Search.{position_from_yields_List}
use Rattle.std.proofs.lemmas.Bool.{not_from_true, eq-eqb}
use Rattle.std.proofs.lemmas.List.{get_or-take}
use Rattle.std.proofs.lemmas.Slice.Zip.{length-zip, get_or-zip}
use Rattle.finite.proofs.Lists.{position_least}
use Rattle.finite.proofs.Search.{least_none}
use Rattle.weighted.proofs.charts.Weighted.find_margin.Goals as goal

pub returns : goal.returns
returns c =
    let w = c.args.self.now in
    let xs : List ℕ = take w.n c.args.amounts.now in
    let row : List ℕ = get_or w.rows c.args.s [] in
    let long : length row ≡ 32 = search rules in
    let short : length xs ≡ w.n = search rules in
    position_from_yields_List (λ (p : ℕ × ℕ). not (eqb p.0 p.1)) c.position.new.self _ _ c.position.ensures.ran
    (YieldsList-from_zip (YieldsList-from_slice xs (search rules)) (YieldsList-from_slice row (search rules))) (λ x b q k. search rules)
    ∙ position_least _ _ (zip xs row) w.n (0, 0) (omega (arith, length-zip xs row)) (λ i l. rw (get_or-zip xs row i (0, 0) (omega arith) (omega arith), get_or-take w.n c.args.amounts.now i 0 l) refl)

pub returns-then-is_row : goal.returns-then-is_row
returns-then-is_row c = sym (least_none c.args.self.now.n _ (λ u l. not_from_true _ (eq-eqb _ _ (c.is_row.ensures c.if-is_row.true u l))))
