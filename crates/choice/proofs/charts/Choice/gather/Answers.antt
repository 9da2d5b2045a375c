use Rattle.std.proofs.Common.{◌≡◌, ◌+◌, ◌*◌, ◌<◌, true, pos, sym, refl, ap, ◌∙◌, add-one, add-zero, rules, arith}
use borrow.Author.Differences.{up}
use Rattle.std.proofs.lemmas.Option.{MatchOption-at_none, MatchOption-at_some}
use Rattle.std.proofs.lemmas.Result.{err_from_is_err_and}
use Rattle.chart.specs.Words.{word}
use Rattle.transitions.specs.declared.fault.Fault.TheVariants.{NoSuccessor}
use Rattle.transitions.specs.Words.{names}
use Rattle.transitions.specs.Pairing.{left, right, pairs}
use Rattle.transitions.proofs.Words.{successor_in}
use Rattle.choice.specs.View.{system}
use Rattle.choice.proofs.Pairs.{read}
use Rattle.choice.proofs.Scan.{left_found, right_found, clear_more, all_clear}
use Rattle.choice.proofs.Marks.{named_is, marked_none, marked_more}
use Rattle.choice.proofs.charts.Choice.gather.Goals as goal

pub loop-j-init : goal.loop-j-init
loop-j-init c = record {
  clear = λ i l. absurd (omega arith);
  lefts = marked_none (left c.args.words.now);
  rights = marked_none (right c.args.words.now);
  most = refl;
}

pub returns-in_err-u : goal.returns-in_err-u
returns-in_err-u c =
    let ws = c.args.words.now in
    let j = c.loop-j.j in
    let inside : j < pairs ws = omega (arith, c.as_chunks.ensures.front_len) in
    let p = err_from_is_err_and c.from_residual.result c.from_residual.ensures.1 in
    let none = MatchOption-at_none _ _ c.in_err-u.ensures.ok_part (named_is c.args.self.now c.args.s _ c.mask-first_mask.ensures _ _ c.named_section.ensures) in
    let first = rw add-zero at (read ws _ j 0 c.as_chunks.ensures.front inside (omega arith) (search rules)) in
    let bad = rw first at none in
    let e = c.in_err-u.ensures.value in
    let k = c.in_err-u.ensures.ok_part in
    let f : c.in_err-u.field-0.0 ≡ NoSuccessor (2 * j) = cc (rw k at e) in
    rw (p.1, p.2, f, left_found (system c.args.self.now) c.args.s c.args.t ws j c.loop-j.invariant.clear inside bad) refl

pub returns-in_err-v : goal.returns-in_err-v
returns-in_err-v c =
    let ws = c.args.words.now in
    let j = c.loop-j.j in
    let inside : j < pairs ws = omega (arith, c.as_chunks.ensures.front_len) in
    let p = err_from_is_err_and c.from_residual-in_err-v.result c.from_residual-in_err-v.ensures.1 in
    let some = MatchOption-at_some _ _ _ c.in_ok-u.ensures.ok_part (named_is c.args.self.now c.args.s _ c.mask-first_mask.ensures _ _ c.named_section.ensures) in
    let none = MatchOption-at_none _ _ c.in_err-v.ensures.ok_part (named_is c.args.self.now c.args.t _ c.mask-second_mask.ensures _ _ c.named_section-in-loop-j.ensures) in
    let first = rw add-zero at (read ws _ j 0 c.as_chunks.ensures.front inside (omega arith) (search rules)) in
    let second = read ws _ j 1 c.as_chunks.ensures.front inside (omega arith) (search rules) in
    let good : names (system c.args.self.now) c.args.s (word ws (2 * j)) ≡ true = rw (sym first ∙ some.0) some.1 in
    let bad = rw second at none in
    let e = c.in_err-v.ensures.value in
    let k = c.in_err-v.ensures.ok_part in
    let f : c.in_err-v.field-0.0 ≡ NoSuccessor (2 * j + 1) = cc (rw k at e) in
    rw (p.1, p.2, f, right_found (system c.args.self.now) c.args.s c.args.t ws j c.loop-j.invariant.clear good inside bad) refl

pub loop-j-preserved : goal.loop-j-preserved
loop-j-preserved c =
    let w = c.args.self.now in
    let ws = c.args.words.now in
    let j = c.loop-j.j in
    let inside : j < pairs ws = omega (arith, c.as_chunks.ensures.front_len) in
    let some = MatchOption-at_some _ _ _ c.in_ok-u.ensures.ok_part (named_is c.args.self.now c.args.s _ c.mask-first_mask.ensures _ _ c.named_section.ensures) in
    let other = MatchOption-at_some _ _ _ c.in_ok-v.ensures.ok_part (named_is c.args.self.now c.args.t _ c.mask-second_mask.ensures _ _ c.named_section-in-loop-j.ensures) in
    let first : word ws (2 * j) ≡ pos c.in_ok-u.u = sym (rw add-zero at (read ws _ j 0 c.as_chunks.ensures.front inside (omega arith) (search rules))) ∙ some.0 in
    let second : word ws (2 * j + 1) ≡ pos c.in_ok-v.v = sym (read ws _ j 1 c.as_chunks.ensures.front inside (omega arith) (search rules)) ∙ other.0 in
    let u : c.in_ok-u.u ≡ left ws j = sym (ap up first) in
    let v : c.in_ok-v.v ≡ right ws j = sym (ap up second) in
    let u-in : left ws j < 32 = omega (arith, successor_in (system w) c.args.s c.in_ok-u.u some.1, w.n_most) in
    let v-in : right ws j < 32 = omega (arith, successor_in (system w) c.args.t c.in_ok-v.v other.1, w.n_most) in
    record {
      clear = clear_more (system w) c.args.s c.args.t ws j c.loop-j.invariant.clear (rw first some.1) (rw second other.1);
      lefts = rw u (marked_more c.loop-j.left (left ws) j c.loop-j.invariant.lefts u-in);
      rights = rw v (marked_more c.loop-j.right (right ws) j c.loop-j.invariant.rights v-in);
      most = rw (add-one j, c.max-greatest.ensures, c.entry.ensures, u, v, c.loop-j.invariant.most) refl;
    }

-- there is a turn for each pair
end : (c : goal.After-loop-j) → c.loop-j.j ≡ pairs c.args.words.now
end c = omega arith

pub returns : goal.returns
returns c = record {
  good = all_clear (system c.args.self.now) c.args.s c.args.t c.args.words.now c.requires.0 (rw (← end c) c.loop-j.invariant.clear);
  lefts = rw (← end c) c.loop-j.invariant.lefts;
  rights = rw (← end c) c.loop-j.invariant.rights;
  most = rw (← end c) c.loop-j.invariant.most;
}
