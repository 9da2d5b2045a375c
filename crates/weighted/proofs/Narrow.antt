-- Words that keep within the top are narrow.
use Rattle.std.proofs.Common.{◌≡◌, ℕ, ◌≤◌, List, length, ℤ, pos, neg_ℤ, None, ⊎_elim, arith}
use borrow.Author.Differences.{ints}
use Rattle.std.proofs.lemmas.Bool.{cases_lt}
use Rattle.std.proofs.lemmas.List.{get_or_past}
use Rattle.finite.specs.Search.{least}
use Rattle.finite.proofs.Search.{least_none_at}
use Rattle.chart.specs.Words.{word, outside}
use Rattle.chart.proofs.Words.{outside_between}
use Rattle.weighted.specs.Bounds.{Narrow}

pub narrow : (ws : List ℤ) (top : ℕ) → top ≤ 1000000000 → least (length ws) (λ i. outside (neg_ℤ (pos top)) (pos top) (word ws i)) ≡ None → (i : ℕ) → Narrow (word ws i)
narrow ws top few none i = ⊎_elim
    (λ l. let within = outside_between (neg_ℤ (pos top)) (pos top) (word ws i) (least_none_at (length ws) _ none i l) in omega (arith, ints, within, few))
    (λ past. rw (get_or_past ws i (pos 0) past) (omega (arith, ints)))
    (cases_lt i (length ws))
