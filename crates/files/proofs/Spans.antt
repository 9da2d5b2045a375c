-- When two spans share a byte.
use Rattle.std.proofs.Common.{◌≡◌, ℕ, ◌+◌, ◌<◌, min, max, Bool, true, ◌&&◌, ltb, is_some, Some, None, Option, sym, refl, ap, ◌∙◌, ⊎_elim, arith}
use Rattle.std.proofs.lemmas.Bool.{both_ways, lt-ltb, le-ltb, cases_lt}
use Rattle.std.proofs.lemmas.Bool.Decides.{nat_tests}
use Rattle.finite.specs.Search.{least}
use Rattle.finite.proofs.Search.{least_none, least_none_at}
use Rattle.files.specs.declared.span.Span.{Span}
use Rattle.files.specs.Spans.{inside, share_byte}

-- a search that has something to find finds something
found : (n : ℕ) (p : ℕ → Bool) (i : ℕ) → i < n → p i ≡ true → (o : Option ℕ) → least n p ≡ o → is_some o ≡ true
found n p i l here (Some x) e = refl
found n p i l here None e = absurd (both_ways (p i) (least_none_at n p e i l) here)

module _ (total first end : ℕ) (s t : Span)
    (is-first : first ≡ max s.at t.at) (is_end : end ≡ min (min (s.at + s.size) (t.at + t.size)) total) where
  -- where the later beginning comes before the earlier end
  pub share_is : ltb first end ≡ share_byte total s t
  share_is = ⊎_elim
      (λ l. lt-ltb first end l ∙ sym (found total (λ i. inside s i && inside t i) first (omega arith) (grind (arith, nat_tests)) _ refl))
      (λ h. le-ltb first end h ∙ sym (ap is_some (least_none total (λ i. inside s i && inside t i) (λ i l. grind (arith, nat_tests)))))
      (cases_lt first end)
