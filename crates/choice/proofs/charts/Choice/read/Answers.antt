use Rattle.std.proofs.Common.{◌≡◌, ℕ, ◌^◌, ◌<◌, ◌≤◌, not, List, Ok, get_or, sym, refl, ap, ⊎_elim, arith}
use Rattle.std.proofs.lemmas.Bool.{cases_lt, le-ltb}
use Rattle.std.proofs.lemmas.Bool.Decides.{nat_tests}
use Rattle.std.proofs.lemmas.Nat.{pow_pos}
use Rattle.finite.specs.Search.{least}
use Rattle.finite.proofs.Search.{least_none_at, least_same}
use Rattle.files.specs.declared.header.Header.{Header}
use Rattle.files.specs.declared.kind.Kind.{Kind}
use Rattle.files.specs.Format.{sections_field}
use Rattle.files.specs.Reading.{Fits}
use Rattle.choice.specs.View.{marks}
use Rattle.choice.specs.Reading.{mask_in, mask_allowed}
use Rattle.choice.proofs.charts.Choice.read.Goals as goal

-- the first mask that is not allowed, as the file has it
same_masks : {kind : Kind} {bs : List ℕ} {h : Header} (masks : List ℕ) → Fits kind bs h → ((s : ℕ) → get_or masks s 0 ≡ mask_in bs s)
    → least (sections_field bs) (λ s. not (mask_allowed (sections_field bs) (mask_in bs s))) ≡ least h.sections (λ s. not (mask_allowed h.sections (get_or masks s 0)))
same_masks {kind} {bs} masks fits same =
    let n = sections_field bs in
    rw fits.sections_is (least_same n _ _ (λ s l. ap (λ mask. not (mask_allowed n mask)) (sym (same s))))

-- outside the sections all masks are 0
outside : {kind : Kind} {bs : List ℕ} {h : Header} (masks : List ℕ) → Fits kind bs h → ((s : ℕ) → get_or masks s 0 ≡ mask_in bs s) → (s : ℕ) → h.sections ≤ s → get_or masks s 0 < 2 ^ h.sections
outside {h} masks fits same s from = rw (same s, ← fits.sections_is, le-ltb s h.sections from) (pow_pos h.sections)

pub returns-in-Some-clause-answer : goal.returns-in-Some-clause-answer
returns-in-Some-clause-answer c =
    let file = c.in_ok-file in
    rw (← file.ensures.answer, ← file.ensures.bytes, same_masks c.read_masks-masks.result file.file.fits c.read_masks-masks.ensures, ← c.in-Some.ensures) refl

pub invariant_of-self-clause-goes_on : goal.invariant_of-self-clause-goes_on
invariant_of-self-clause-goes_on c s l =
    let h = c.in_ok-file.file.header in
    let allowed = least_none_at h.sections (λ s. not (mask_allowed h.sections (get_or c.read_masks-masks.result s 0))) (sym c.in_default.ensures) s l in
    grind (arith, nat_tests)

pub invariant_of-self-clause-within : goal.invariant_of-self-clause-within
invariant_of-self-clause-within c s =
    let h = c.in_ok-file.file.header in
    ⊎_elim
    (λ l. let allowed = least_none_at h.sections (λ s. not (mask_allowed h.sections (get_or c.read_masks-masks.result s 0))) (sym c.in_default.ensures) s l in grind (arith, nat_tests))
    (λ from. outside c.read_masks-masks.result c.in_ok-file.file.fits c.read_masks-masks.ensures s from)
    (cases_lt s h.sections)

pub returns-clause-answer : goal.returns-clause-answer
returns-clause-answer c =
    let file = c.in_ok-file in
    let fits = file.file.fits in
    rw (← file.ensures.answer, ← file.ensures.bytes, same_masks c.read_masks-masks.result fits c.read_masks-masks.ensures, ← c.in_default.ensures) (ap Ok fits.sections_is)

pub returns-clause-chart : goal.returns-clause-chart
returns-clause-chart c =
    let fits = c.in_ok-file.file.fits in
    rw (← c.in_ok-file.ensures.bytes) (λ i. record {
      n = fits.sections_is i;
      a = fits.numerator_is i;
      b = fits.denominator_is i;
      band = λ s. c.bands.ensures s i;
      leads = λ s u. marks (c.read_masks-masks.ensures s i) u;
    })
