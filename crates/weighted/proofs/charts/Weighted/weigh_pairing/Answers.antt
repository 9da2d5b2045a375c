use Rattle.std.proofs.Common.{◌≡◌, ℕ, ◌+◌, ◌*◌, ◌%◌, ◌<◌, ◌≤◌, false, not, ◌||◌, eqb, ltb, List, [], ◌∷◌, length, get_or, ℤ, pos, None, sym, refl, ap, ◌∙◌, mul-le-mul, mul-le-mul_left, add-one, add-zero, arith}
use borrow.Author.Differences.{up}
use Rattle.std.specs.Option.{option_map}
use Rattle.std.specs.Simd.{first_chunks}
use Rattle.std.proofs.lemmas.Result.{err_from_is_err_and}
use Rattle.std.proofs.lemmas.Bool.Decides.{nat_tests}
use Rattle.finite.specs.Search.{first_of, least}
use Rattle.finite.proofs.Lists.{chunk_at}
use Rattle.finite.proofs.Search.{least_none, least_same}
use Rattle.chart.specs.Tables.{distances}
use Rattle.chart.specs.Bands.{unjudged}
use Rattle.chart.specs.Words.{word}
use Rattle.chart.proofs.Bounds.{entry_bounded, entry_most}
use Rattle.chain.specs.declared.fault.Fault.TheVariants.{FirstMargin, SecondMargin}
use Rattle.chain.specs.Chain.{Chain}
use Rattle.chain.specs.Pairing.{left, right, amount, triples, margin, cost, bad_word, pairing_fault}
use Rattle.chain.proofs.Exits.{faulty, pairing_unjudged, pairing_count, pairing_word}
use Rattle.chain.proofs.Valid.{pairing_from}
use Rattle.chain.proofs.Laws.{cost_most}
use Rattle.weighted.specs.declared.charts.Weighted.{Weighted}
use Rattle.weighted.specs.View.{chain}
use Rattle.weighted.specs.Soundness.{sound}
use Rattle.weighted.proofs.Tally.{Tallied, tallied_none, tallied_more}
use Rattle.weighted.proofs.Triples.{Clear, bad_found, clear_more}
use Rattle.weighted.proofs.charts.Weighted.weigh_pairing.Goals as goal

-- ---- the checks before the triples

pub returns-then-is_unjudged : goal.returns-then-is_unjudged
returns-then-is_unjudged c = faulty _ _ _ (pairing_unjudged _ _ _ _ (sym c.if-is_unjudged.ensures))

pub returns-then-wrong_count : goal.returns-then-wrong_count
returns-then-wrong_count c = faulty _ _ _ (pairing_count _ _ _ _ (sym c.if-is_unjudged.ensures) (sym c.if-wrong_count.ensures))

-- ---- the pass over the triples

pub loop-j-init : goal.loop-j-init
loop-j-init c = record {
  clear = λ i l. absurd (omega arith);
  lefts = tallied_none (left c.args.words.now) (amount c.args.words.now);
  rights = tallied_none (right c.args.words.now) (amount c.args.words.now);
  total = refl;
  few = omega arith;
}

-- the words of a chunk are those of its triple
words_of : (ws : List ℤ) (chunks : List (List ℤ)) (j : ℕ) → chunks ≡ first_chunks 3 (triples ws) ws → j < triples ws → (i : ℕ) → i < 3 → word (get_or chunks j []) i ≡ word ws (3 * j + i)
words_of ws chunks j e l i h = rw e (chunk_at 3 (triples ws) j i ws (pos 0) l h)

pub returns-in_err-triple : goal.returns-in_err-triple
returns-in_err-triple c =
    let ws = c.args.words.now in
    let j = c.loop-j.j in
    let inside : j < triples ws = omega (arith, c.as_chunks.ensures.front_len) in
    let p = err_from_is_err_and c.from_residual.result c.from_residual.ensures.1 in
    let count = c.if-wrong_count.ensures in
    rw (p.1, p.2) (faulty _ _ _ (pairing_word _ _ _ _ (sym c.if-is_unjudged.ensures) (grind (arith, nat_tests)) (grind (arith, nat_tests)) _
    (bad_found (chain c.args.self.now) ws _ j (words_of ws _ j c.as_chunks.ensures.front inside) c.loop-j.invariant.clear _ inside c.in_err-triple.ensures)))

cost_few : (c : goal.After-cost-total) → c.cost-total.result ≤ 10000000000000
cost_few c =
    let few : c.in_ok-triple.triple.amount ≤ 10000 = omega (arith, c.in_ok-triple.ensures.few) in
    rw c.cost-total.ensures (mul-le-mul few (entry_most c.args.d.now c.in_ok-triple.triple.u c.in_ok-triple.triple.v))

pub loop-j-preserved : goal.loop-j-preserved
loop-j-preserved c =
    let r = c.in_ok-triple.ensures in
    let ws = c.args.words.now in
    let w = c.args.self.now in
    let j = c.loop-j.j in
    let is = words_of ws _ j c.as_chunks.ensures.front (omega (arith, c.as_chunks.ensures.front_len)) in
    let first : c.in_ok-triple.triple.u ≡ left ws j = r.first ∙ ap up (rw add-zero at (is 0 (omega arith))) in
    let second : c.in_ok-triple.triple.v ≡ right ws j = r.second ∙ ap up (is 1 (omega arith)) in
    let third : c.in_ok-triple.triple.amount ≡ amount ws j = r.third ∙ ap up (is 2 (omega arith)) in
    record {
      clear = clear_more (chain w) ws _ j is c.loop-j.invariant.clear r.good;
      lefts = rw (first, third) (tallied_more c.loop-j.left (left ws) (amount ws) j c.loop-j.invariant.lefts (omega (arith, first, r.first_in)) (omega (arith, third, r.few)));
      rights = rw (second, third) (tallied_more c.loop-j.right (right ws) (amount ws) j c.loop-j.invariant.rights (omega (arith, second, r.second_in)) (omega (arith, third, r.few)));
      total = rw (add-one j, c.cost-total.ensures, first, second, third, c.loop-j.invariant.total) refl;
      few = omega (arith, cost_few c);
    }

-- ---- the margins

-- after the last triple
module _ (w : Weighted) (ws : List ℤ) (j : ℕ) (end : j ≡ triples ws) (clear : Clear (chain w) ws j) where
  -- the search through the amounts that were added up is that through the margins
  same_search : (s : ℕ) (side : List ℤ → ℕ → ℕ) (got : List ℕ) → Tallied got (side ws) (amount ws) j
      → least w.n (λ u. not (eqb (margin side ws u) ((chain w).part s u))) ≡ least w.n (λ u. not (eqb (get_or got u 0) ((chain w).part s u)))
  same_search s side got t =
      least_same w.n _ _ (λ u l. ap (λ m. not (eqb m ((chain w).part s u))) (rw (← end) (sym (t.at u (omega (arith, w.n_most))))))

  good : length ws % 3 ≡ 0 → least (length ws) (bad_word (chain w) ws) ≡ None
  good whole = least_none (length ws) (bad_word (chain w) ws) (λ k h. clear k (omega (arith, end)))

  -- the fault is that of the margins
  fault_is : (lefts rights : List ℕ) → Tallied lefts (left ws) (amount ws) j → Tallied rights (right ws) (amount ws) j
      → (s t : ℕ) → false ≡ unjudged w.n (chain w).band s t → false ≡ (not (eqb (length ws % 3) 0) || ltb 3072 (length ws))
      → pairing_fault (chain w) s t ws ≡ first_of (
      option_map FirstMargin (least w.n (λ u. not (eqb (get_or lefts u 0) ((chain w).part s u))))
      ∷ option_map SecondMargin (least w.n (λ v. not (eqb (get_or rights v 0) ((chain w).part t v))))
      ∷ [])
  unfolding pairing_fault
  fault_is lefts rights l r s t judged count =
      let whole : length ws % 3 ≡ 0 = grind (arith, nat_tests) in
      simp (sym judged, sym count, good whole, same_search s left lefts l, same_search t right rights r)

pub returns-in-Some : goal.returns-in-Some
returns-in-Some c =
    let i = c.loop-j.invariant in
    rw (fault_is c.args.self.now c.args.words.now _ (omega (arith, c.as_chunks.ensures.front_len)) i.clear _ _ i.lefts i.rights _ _ c.if-is_unjudged.ensures c.if-wrong_count.ensures, ← c.in-Some.ensures) refl

pub returns-in-Some-find_margin : goal.returns-in-Some-find_margin
returns-in-Some-find_margin c =
    let i = c.loop-j.invariant in
    rw (fault_is c.args.self.now c.args.words.now _ (omega (arith, c.as_chunks.ensures.front_len)) i.clear _ _ i.lefts i.rights _ _ c.if-is_unjudged.ensures c.if-wrong_count.ensures, ← c.in_default.ensures, ← c.in-Some-find_margin.ensures) refl

unfaulty : (c : goal.In_default-find_margin) → pairing_fault (chain c.args.self.now) c.args.s c.args.t c.args.words.now ≡ None
unfaulty c =
    let i = c.loop-j.invariant in
    rw (fault_is c.args.self.now c.args.words.now _ (omega (arith, c.as_chunks.ensures.front_len)) i.clear _ _ i.lefts i.rights _ _ c.if-is_unjudged.ensures c.if-wrong_count.ensures, ← c.in_default.ensures, ← c.in_default-find_margin.ensures) refl

-- ---- the claim

total_is : (c : goal.In_default-find_margin) → c.loop-j.total ≡ cost (distances c.args.d.now) c.args.words.now
total_is c =
    let end : c.loop-j.j ≡ triples c.args.words.now = omega (arith, c.as_chunks.ensures.front_len) in
    rw (← end) c.loop-j.invariant.total

pub round_up-requires : goal.round_up-requires
round_up-requires c =
    let w = c.args.self.now in
    let d = c.args.d.now in
    let most = cost_most (chain w) (sound w) (distances d) c.args.s c.args.t c.args.words.now (pairing_from _ _ _ _ (unfaulty c)) (λ u v _ _. entry_bounded d u v) in
    omega (arith, total_is c, mul-le-mul_left w.whole d.top.most)

pub returns : goal.returns
returns c = rw (c.round_up.ensures, total_is c.before, unfaulty c.before) refl
