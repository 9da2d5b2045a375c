-- What is known of a header that is read.
use Rattle.std.proofs.Common.{◌≡◌, ℕ, ◌≤◌, Bool, true, false, not, IsSomeAnd, IfNone, eqb, ltb, List, [], ◌∷◌, length, Some, None, Option, refl, sym, ap, ◌∙◌, subst, arith}
use Rattle.std.proofs.lemmas.Bool.{not-false}
use Rattle.std.proofs.lemmas.Bool.Decides.{nat_tests}
use Rattle.finite.specs.Search.{given, first_of}
use Rattle.finite.proofs.Search.{first_of_none, given_none}
use Rattle.files.specs.declared.header.Header.{Header}
use Rattle.files.specs.declared.kind.Kind.{Kind}
use Rattle.files.specs.declared.kind.Kind.TheVariants.{Weighted, Choice}
use Rattle.files.specs.declared.refusal.ReadRefusal.{ReadRefusal}
use Rattle.files.specs.declared.refusal.ReadRefusal.TheVariants.{Short, Length, OtherKind, Sections, Discount, Whole, Bands, Routes}
use Rattle.files.specs.Format.{kind_field, length_field}
use Rattle.files.specs.Kinds.{code, kind_named, whole_allowed}
use Rattle.files.specs.Headers.{header_of, sections_allowed, discount_allowed, bands_span, routes_span}
use Rattle.files.specs.Spans.{in_file}
use Rattle.files.specs.Refusals.{number, refusal_of, header_refusal}
use Rattle.files.specs.Reading.{Fits}

-- where no check fails, the first does not, and none of the others
passed : (b : Bool) (e : ReadRefusal) (os : List (Option ReadRefusal)) → first_of (given (not b) e ∷ os) ≡ None → (b ≡ true) × (first_of os ≡ None)
passed b e os none = let p = first_of_none (given (not b) e) os none in (not-false b (given_none (not b) e p.0), p.1)

-- a header that no check refuses
fits_fields : (kind : Kind) (bs : List ℕ) → header_refusal kind bs ≡ None → Fits kind bs (header_of bs)
unfolding refusal_of
fits_fields kind bs none =
    let h = header_of bs in
    let long = first_of_none (given (ltb (length bs) 16) (Short (length bs))) _ none in
    let sized = passed (eqb (length_field bs) (length bs)) Length _ long.1 in
    let same = passed (eqb (kind_field bs) (code kind)) OtherKind _ sized.1 in
    let sections = passed (sections_allowed h.sections) Sections _ same.1 in
    let discount = passed (discount_allowed h.numerator h.denominator) Discount _ sections.1 in
    let whole = passed (whole_allowed kind h.whole) Whole _ discount.1 in
    let bands = passed (in_file (length bs) (bands_span h)) Bands _ whole.1 in
    let routes = passed (in_file (length bs) (routes_span kind h)) Routes _ bands.1 in
    record {
      some_sections = grind (arith, nat_tests);
      few_sections = grind (arith, nat_tests);
      some_numerator = grind (arith, nat_tests);
      below_one = grind (arith, nat_tests);
      few_denominator = grind (arith, nat_tests);
      allowed_whole = whole.0;
      bands_after = grind (arith, nat_tests);
      bands_end = grind (arith, nat_tests);
      routes_after = grind (arith, nat_tests);
      routes_end = grind (arith, nat_tests);
      sections_is = refl;
      numerator_is = refl;
      denominator_is = refl;
      whole_is = refl;
      bands_is = refl;
      routes_is = refl;
    }

pub fits_unrefused : (kind : Kind) (bs : List ℕ) (h : Header) → h ≡ header_of bs → refusal_of kind bs h ≡ None → Fits kind bs h
fits_unrefused kind bs h same none = subst (Fits kind bs) (sym same) (fits_fields kind bs (ap (refusal_of kind bs) (sym same) ∙ none))

-- a file that names no kind fails one of the first three checks
early : (short sized other : Bool) (n : ℕ) (os : List (Option ReadRefusal)) → other ≡ true
    → IsSomeAnd (first_of (given short (Short n) ∷ given sized Length ∷ given other OtherKind ∷ os)) (λ e. number e ≤ 2)
early true sized other n os is_other = omega arith
early false true other n os is_other = omega arith
early false false true n os is_other = omega arith
early false false false n os is_other = absurd (cc is_other)

unnamed_refused : (kind : Kind) (bs : List ℕ) → kind_named bs ≡ None → IsSomeAnd (header_refusal kind bs) (λ e. number e ≤ 2)
unfolding refusal_of
unnamed_refused kind bs none = early _ _ _ _ _ (other kind) where
  not_first : (given (eqb (kind_field bs) (code Weighted)) Weighted ≡ None) × (first_of (given (eqb (kind_field bs) (code Choice)) Choice ∷ []) ≡ None)
  not_first = first_of_none (given (eqb (kind_field bs) (code Weighted)) Weighted) _ none

  not_second : given (eqb (kind_field bs) (code Choice)) Choice ≡ None
  not_second = (first_of_none (given (eqb (kind_field bs) (code Choice)) Choice) [] not_first.1).0

  other : (kind : Kind) → not (eqb (kind_field bs) (code kind)) ≡ true
  other Weighted = ap not (given_none (eqb (kind_field bs) (code Weighted)) Weighted not_first.0)
  other Choice = ap not (given_none (eqb (kind_field bs) (code Choice)) Choice not_second)

pub unless_named : (bs : List ℕ) (o : Option Kind) → o ≡ kind_named bs → IfNone o ((kind : Kind) → IsSomeAnd (header_refusal kind bs) (λ e. number e ≤ 2))
unless_named bs (Some kind) named = tt
unless_named bs None named = λ kind. unnamed_refused kind bs (sym named)
