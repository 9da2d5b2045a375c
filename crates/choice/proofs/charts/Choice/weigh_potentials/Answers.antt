use Rattle.std.proofs.Common.{◌≡◌, ℕ, false, not, eqb, List, length, ℤ, w32, SFits, to_z, of_z, sym, ap, ◌∙◌, rules, arith}
use Rattle.std.proofs.lemmas.Bool.{eq-eqb}
use Rattle.std.proofs.lemmas.Int.{to_z-of_z}
use Rattle.std.proofs.lemmas.Option.{MatchOption-at_none, MatchOption-at_some}
use Rattle.std.proofs.lemmas.Result.{err_from_is_err_and}
use Rattle.std.proofs.lemmas.Bool.Decides.{nat_tests}
use Rattle.chart.specs.Tables.{distances}
use Rattle.chart.specs.Words.{word}
use Rattle.transitions.specs.declared.fault.Fault.TheVariants.{NoSide, NoSection, NoFloor}
use Rattle.transitions.proofs.Exits.{lower_unjudged, lower_count, lower_side}
use Rattle.choice.proofs.Told.{section_fault, floor_fault, below_fault, valid}
use Rattle.choice.proofs.charts.Choice.weigh_potentials.Goals as goal

-- there are three words
three : (ws : List ℤ) → length ws ≡ 3 → not (eqb (length ws) 3) ≡ false
three ws e = ap not (eq-eqb (length ws) 3 e)

pub returns-then-is_unjudged : goal.returns-then-is_unjudged
returns-then-is_unjudged c = sym (lower_unjudged _ (distances c.args.d.now) _ _ _ (sym c.if-is_unjudged.ensures))

pub returns-in_default : goal.returns-in_default
returns-in_default c = sym (lower_count _ (distances c.args.d.now) _ _ _ (sym c.if-is_unjudged.ensures) (grind (arith, nat_tests)))

pub returns-in_default-2 : goal.returns-in_default-2
returns-in_default-2 c = sym (lower_count _ (distances c.args.d.now) _ _ _ (sym c.if-is_unjudged.ensures) (grind (arith, nat_tests)))

-- a word, as the code reads it
read : (ws : List ℤ) (i : ℕ) (x : ℤ) → SFits w32 (word ws i) → to_z w32 (of_z w32 (word ws i)) ≡ x → word ws i ≡ x
read ws i x fits e = sym (to_z-of_z w32 (word ws i) fits) ∙ e

pub returns-in_err-side : goal.returns-in_err-side
returns-in_err-side c =
    let ws = c.args.words.now in
    let p = err_from_is_err_and c.from_residual.result c.from_residual.ensures.1 in
    let e = c.in_err-side.ensures.value in
    let f : c.in_err-side.field-0.0 ≡ NoSide = cc (rw c.in_err-side.ensures.ok_part at e) in
    let fits : SFits w32 (word ws 0) = search rules in
    let bad = rw (to_z-of_z w32 (word ws 0) fits) at (MatchOption-at_none _ _ c.in_err-side.ensures.ok_part c.new.ensures) in
    rw (p.1, p.2, f) (sym (lower_side _ (distances c.args.d.now) _ _ ws (sym c.if-is_unjudged.ensures) (three ws (omega arith)) bad))

pub returns-in_err-section : goal.returns-in_err-section
returns-in_err-section c =
    let ws = c.args.words.now in
    let p = err_from_is_err_and c.from_residual-in_err-section.result c.from_residual-in_err-section.ensures.1 in
    let e = c.in_err-section.ensures.value in
    let f : c.in_err-section.field-0.0 ≡ NoSection = cc (rw c.in_err-section.ensures.ok_part at e) in
    let fits : SFits w32 (word ws 1) = search rules in
    let bad = rw (to_z-of_z w32 (word ws 1) fits, c.own.ensures) at (MatchOption-at_none _ _ c.in_err-section.ensures.ok_part c.named_successor.ensures) in
    let side = read ws 0 _ (search rules) (MatchOption-at_some _ _ _ c.in_ok-side.ensures.ok_part c.new.ensures) in
    rw (p.1, p.2, f) (sym (section_fault _ (distances c.args.d.now) _ _ ws (sym c.if-is_unjudged.ensures) (three ws (omega arith)) _ side bad))

pub returns-in_err-floor : goal.returns-in_err-floor
returns-in_err-floor c =
    let ws = c.args.words.now in
    let p = err_from_is_err_and c.from_residual-in_err-floor.result c.from_residual-in_err-floor.ensures.1 in
    let e = c.in_err-floor.ensures.value in
    let f : c.in_err-floor.field-0.0 ≡ NoFloor = cc (rw c.in_err-floor.ensures.ok_part at e) in
    let fits : SFits w32 (word ws 2) = search rules in
    let bad = rw (to_z-of_z w32 (word ws 2) fits, c.top.ensures) at (MatchOption-at_none _ _ c.in_err-floor.ensures.ok_part c.read_floor.ensures) in
    let side = read ws 0 _ (search rules) (MatchOption-at_some _ _ _ c.in_ok-side.ensures.ok_part c.new.ensures) in
    let some = MatchOption-at_some _ _ _ c.in_ok-section.ensures.ok_part c.named_successor.ensures in
    let section = read ws 1 _ (search rules) some.0 in
    rw (p.1, p.2, f) (sym (floor_fault _ (distances c.args.d.now) _ _ ws (sym c.if-is_unjudged.ensures) (three ws (omega arith)) _ side _ section (rw c.own.ensures at some.1) bad))

pub returns-in-Some : goal.returns-in-Some
returns-in-Some c =
    let ws = c.args.words.now in
    let side = read ws 0 _ (search rules) (MatchOption-at_some _ _ _ c.in_ok-side.ensures.ok_part c.new.ensures) in
    let named = MatchOption-at_some _ _ _ c.in_ok-section.ensures.ok_part c.named_successor.ensures in
    let section = read ws 1 _ (search rules) named.0 in
    let told = MatchOption-at_some _ _ _ c.in_ok-floor.ensures.ok_part c.read_floor.ensures in
    let floor = read ws 2 _ (search rules) told.0 in
    sym (below_fault _ (distances c.args.d.now) _ _ ws (sym c.if-is_unjudged.ensures) (three ws (omega arith)) _ side _ section (rw c.own.ensures at named.1) _ floor (rw c.top.ensures at told.1) _
    (rw c.other.ensures at (sym c.in-Some.ensures)))

pub returns : goal.returns
returns c =
    let ws = c.args.words.now in
    let side = read ws 0 _ (search rules) (MatchOption-at_some _ _ _ c.in_ok-side.ensures.ok_part c.new.ensures) in
    let named = MatchOption-at_some _ _ _ c.in_ok-section.ensures.ok_part c.named_successor.ensures in
    let section = read ws 1 _ (search rules) named.0 in
    let told = MatchOption-at_some _ _ _ c.in_ok-floor.ensures.ok_part c.read_floor.ensures in
    let floor = read ws 2 _ (search rules) told.0 in
    rw c.round_down.ensures
    (sym (valid _ (distances c.args.d.now) _ _ ws (sym c.if-is_unjudged.ensures) (three ws (omega arith)) _ side _ section (rw c.own.ensures at named.1) _ floor (rw c.top.ensures at told.1)
    (rw c.other.ensures at (sym c.in_default-find_below.ensures))))
