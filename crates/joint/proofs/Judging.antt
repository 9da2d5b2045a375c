-- The test of a judged pair.
use Rattle.std.proofs.Common.{◌≡◌, ℕ, ◌<◌, Bool, true, false, not, lt-ltb, ltb-true, refl}
use Rattle.std.proofs.lemmas.Bool.{and_parts, or_from, false_from_ne_true}
use Rattle.chart.specs.Meaning.{Meaning, Judged}
use Rattle.chart.specs.Starting.{judged_pair}
use Rattle.joint.specs.Meaning.{judged, joined}

not_true : (b : Bool) → not b ≡ true → b ≡ false
not_true true e = cc e
not_true false e = refl

module _ {F : Type 0} (m : Meaning F) (s t : ℕ) where
  pub judged_from : Judged m s t → judged_pair m s t ≡ true
  judged_from j = rw (lt-ltb s m.sections j.first_in, lt-ltb t m.sections j.second_in, j.together) refl

  pub judged_to : judged_pair m s t ≡ true → Judged m s t
  judged_to e =
      let (first, others) = and_parts _ _ e in
      let (second, together) = and_parts _ _ others in
      record { first_in = ltb-true s m.sections first; second_in = ltb-true t m.sections second; together = not_true _ together }

  pub unjudged_is_false : (Judged m s t → ⊥) → judged_pair m s t ≡ false
  unjudged_is_false h = false_from_ne_true (judged_pair m s t) (λ e. h (judged_to e))

-- a pair that is judged in both sittings is a judged pair of the two together
pub judged_in_both : {P Q : Type 0} (m : Meaning P) (o : Meaning Q) (s t : ℕ) → judged m o s t ≡ true → Judged (joined m o) s t
judged_in_both m o s t e =
    let (first, second) = and_parts (judged_pair m s t) (judged_pair o s t) e in
    let j = judged_to m s t first in
    record { first_in = j.first_in; second_in = j.second_in; together = or_from _ _ j.together (judged_to o s t second).together }

pub unjudged_in_one : {P Q : Type 0} (m : Meaning P) (o : Meaning Q) (s t : ℕ) → (Judged (joined m o) s t → ⊥) → judged m o s t ≡ false
unjudged_in_one m o s t h = false_from_ne_true (judged m o s t) (λ e. h (judged_in_both m o s t e))

pub self_judged : {F : Type 0} (m : Meaning F) (s : ℕ) → m.apart s s ≡ false → s < m.sections → judged_pair m s s ≡ true
self_judged m s together l = judged_from m s s (record { first_in = l; second_in = l; together = together })
