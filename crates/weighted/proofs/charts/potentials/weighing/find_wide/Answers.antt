use Rattle.std.proofs.Common.{◌≡◌, ℕ, length, pos, neg_ℤ, ℤ, sym, ◌∙◌, ltb, refl, rules, arith}
use borrow.Author.Differences.{ints}
use Rattle.std.proofs.lemmas.Iterator.{YieldsList-from_slice}
use Rattle.std.proofs.lemmas.Iterator.Search.{position_from_yields_List}
use Rattle.std.specs.Int.RustNames.{unsigned_abs}
use Rattle.finite.proofs.Lists.{position_least}
use Rattle.finite.proofs.Search.{least_none}
use Rattle.chart.specs.Words.{outside, word}
use Rattle.weighted.proofs.charts.potentials.weighing.find_wide.Goals as goal

-- a word is further from 0 than the top where its size is above it
outside_is : (top : ℕ) (w : ℤ) → outside (neg_ℤ (pos top)) (pos top) w ≡ ltb top (unsigned_abs w)
outside_is top w = grind (arith, ints)

pub returns : goal.returns
returns c =
    position_from_yields_List (λ (w : ℤ). ltb c.args.top (unsigned_abs w)) _ _ _ c.position.ensures.ran (YieldsList-from_slice c.args.words.now cc) (λ x b q k. search rules)
    ∙ position_least _ _ c.args.words.now _ (pos 0) refl (λ i l. outside_is c.args.top (word c.args.words.now i))

pub returns-then-all_within : goal.returns-then-all_within
returns-then-all_within c = sym (least_none (length c.args.words.now) _ (c.all_within.ensures c.if-all_within.true))
