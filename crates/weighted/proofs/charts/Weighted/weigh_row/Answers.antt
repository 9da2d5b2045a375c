use Rattle.std.proofs.Common.{◌≡◌, ℕ, ◌+◌, ◌*◌, ◌^◌, ◌<◌, List, [], length, get_or, ℤ, pos, ◌+ℤ◌, ◌*ℤ◌, sym, ap₂, ◌∙◌, add-one, arith, w32, w64, SFits, to_z, of_z, rules}
use borrow.Author.Differences.{ints, fits_in, fits_out, sum_is_lem}
use Rattle.std.proofs.lemmas.Int.{to_z-of_z}
use Rattle.std.proofs.lemmas.Slice.Zip.{zip_turn, zip_end}
use Rattle.std.proofs.lemmas.List.{length_push}
use Rattle.finite.specs.Sums.{sumℤ}
use Rattle.chart.specs.Words.{word}
use Rattle.weighted.specs.View.{chain}
use Rattle.weighted.proofs.Near.{Near, near_product}
use Rattle.weighted.proofs.charts.Weighted.weigh_row.Goals as goal

-- this turn's part and word are those at its place
here : (c : goal.After-from-in-loop-part) → (let n = length c.loop-part.yielded in (n < c.args.self.now.n) × (c.in-Some.part.now ≡ (chain c.args.self.now).part c.args.s n) × (c.in-Some.word.now ≡ word c.args.words.now n))
here c =
    let t = zip_turn (get_or c.args.self.now.rows c.args.s []) c.args.words.now c.loop-part.yielded c.into_iter-part-iterator.result c.loop-part.part-iterator c.next.new.self _
    (search rules) (search rules) c.loop-part.yielded_by _ c.in-Some.is c.next.ensures.steps in
    (omega (arith, t.1), t.2 0, t.3 (pos 0))

abbrev product : goal.After-from-in-loop-part → ℤ
product c = pos c.in-Some.part.now *ℤ c.in-Some.word.now

-- a part of 16 bits times a word of 32
product_near : (c : goal.After-from-in-loop-part) → Near 140735340871680 (product c)
product_near c =
    let p : c.in-Some.part.now < 2 ^ 16 = search rules in
    let w : SFits w32 c.in-Some.word.now = search rules in
    omega (arith, near_product c.in-Some.part.now (2 ^ 31) c.in-Some.word.now (omega (arith, fits_out w32 _ w)))

-- the product as the code computes it
product_is : (c : goal.After-from-in-loop-part) → to_z w64 (of_z w64 (to_z w64 (of_z w64 c.from.result) *ℤ to_z w64 (of_z w64 c.from-in-loop-part.result))) ≡ product c
product_is c =
    let p = c.in-Some.part.now in
    let w = c.in-Some.word.now in
    let few : p < 2 ^ 16 = search rules in
    let f : SFits w32 w = search rules in
    rw (c.from.ensures, c.from-in-loop-part.ensures, to_z-of_z w32 w f, to_z-of_z w64 (pos p) (fits_in w64 (pos p) (omega arith)), to_z-of_z w64 w (omega (arith, ints)))
    (to_z-of_z w64 (product c) (fits_in w64 (product c) (omega (arith, product_near c))))

sum_near : (c : goal.After-from-in-loop-part) → Near ((length c.loop-part.yielded + 1) * 140735340871680) (c.loop-part.sum +ℤ product c)
sum_near c = let near = rw c.loop-part.sum-is at c.loop-part.invariant.1 in omega (arith, sum_is_lem c.loop-part.sum (product c), product_near c)

sum_fits : (c : goal.After-from-in-loop-part) → SFits w64 (c.loop-part.sum +ℤ product c)
sum_fits c = fits_in w64 _ (omega (arith, sum_near c, (here c).0, c.args.self.now.n_most))

pub overflow_add-sum : goal.overflow_add-sum
overflow_add-sum c = rw (c.loop-part.sum-is, product_is c) (sum_fits c)

pub loop-part-preserved : goal.loop-part-preserved
loop-part-preserved c =
    let at = here c in
    let same : c.loop-part.sum +ℤ product c ≡ sumℤ (length c.loop-part.yielded + 1) (λ u. pos ((chain c.args.self.now).part c.args.s u) *ℤ word c.args.words.now u)
    = rw add-one (ap₂ ◌+ℤ◌ (sym c.loop-part.sum-is ∙ c.loop-part.invariant.0) (ap₂ (λ p w. pos p *ℤ w) at.1 at.2)) in
    rw (c.loop-part.sum-is, product_is c, to_z-of_z w64 (c.loop-part.sum +ℤ product c) (sum_fits c), length_push) (same, sum_near c)

-- there is a turn for each section
all : (c : goal.In-None) → length c.loop-part.yielded ≡ c.args.self.now.n
all c =
    let row : List ℕ = get_or c.args.self.now.rows c.args.s [] in
    let long : length row ≡ 32 = search rules in
    omega (
      arith,
      zip_end row c.args.words.now c.loop-part.yielded c.into_iter-part-iterator.result c.loop-part.part-iterator c.next.new.self _
          (search rules) (search rules) c.loop-part.yielded_by c.in-None.is c.next.ensures.steps,
    )

pub returns-clause-value : goal.returns-clause-value
returns-clause-value c = rw (← all c) c.loop-part.invariant.0

pub returns-clause-small : goal.returns-clause-small
returns-clause-small c = let e = all c in omega (arith, ints)
