use Rattle.std.proofs.Common.{◌≡◌, ℕ, not, eqb, List, Ok, sym, refl, ap, arith, rules}
use mathlib.Core.Path.{fun_ext}
use Rattle.std.proofs.lemmas.Bool.Decides.{nat_tests}
use Rattle.finite.specs.Sums.{sum}
use Rattle.finite.specs.Search.{least}
use Rattle.finite.proofs.Search.{least_none_at}
use Rattle.files.specs.declared.header.Header.{Header}
use Rattle.files.specs.declared.kind.Kind.{Kind}
use Rattle.files.specs.Format.{sections_field, whole_field}
use Rattle.files.specs.Reading.{Fits}
use Rattle.chain.proofs.Registers.{registers_bound, settled_is_distance, entries_bound_distance}
use Rattle.weighted.specs.Rows.{entry_at}
use Rattle.weighted.specs.Reading.{part_in}
use Rattle.weighted.proofs.charts.Weighted.read.Goals as goal

-- the first row that does not add up, as the file has it
same_rows : {kind : Kind} {bs : List ℕ} {h : Header} (rows : List (List ℕ)) → Fits kind bs h → ((s u : ℕ) → entry_at rows s u ≡ part_in bs s u)
    → least (sections_field bs) (λ s. not (eqb (sum (sections_field bs) (part_in bs s)) (whole_field bs))) ≡ least h.sections (λ s. not (eqb (sum h.sections (entry_at rows s)) h.whole))
same_rows {kind} {bs} rows fits parts =
    let rows_are : entry_at rows ≡ part_in bs = fun_ext (λ s. fun_ext (λ u. parts s u)) in
    rw (fits.sections_is, fits.whole_is, rows_are) refl

pub returns-in-Some-clause-answer : goal.returns-in-Some-clause-answer
returns-in-Some-clause-answer c =
    let file = c.in_ok-file in
    rw (← file.ensures.answer, ← file.ensures.bytes, same_rows c.read_rows-rows.result file.file.fits c.read_rows-rows.ensures, ← c.in-Some.ensures) refl

pub invariant_of-self-clause-adds_up : goal.invariant_of-self-clause-adds_up
invariant_of-self-clause-adds_up c s l =
    let h = c.in_ok-file.file.header in
    let even = least_none_at h.sections (λ s. not (eqb (sum h.sections (entry_at c.read_rows-rows.result s)) h.whole)) (sym c.in_default.ensures) s l in
    grind (arith, nat_tests)

pub returns-clause-answer : goal.returns-clause-answer
returns-clause-answer c =
    let file = c.in_ok-file in
    let fits = file.file.fits in
    rw (← file.ensures.answer, ← file.ensures.bytes, same_rows c.read_rows-rows.result fits c.read_rows-rows.ensures, ← c.in_default.ensures) (ap Ok fits.sections_is)

pub returns-clause-chart : goal.returns-clause-chart
returns-clause-chart c =
    let fits = c.in_ok-file.file.fits in
    rw (← c.in_ok-file.ensures.bytes) (λ i. record {
      n = fits.sections_is i;
      a = fits.numerator_is i;
      b = fits.denominator_is i;
      whole = fits.whole_is i;
      band = λ s. c.bands.ensures s i;
      part = λ s u. c.read_rows-rows.ensures s u i;
    })

pub returns-in_err-file-clause-bounds : goal.returns-in_err-file-clause-bounds
returns-in_err-file-clause-bounds c = registers_bound _ (search rules)

pub returns-in_err-file-clause-settled : goal.returns-in_err-file-clause-settled
returns-in_err-file-clause-settled c = settled_is_distance _ (search rules)

pub returns-in_err-file-clause-between : goal.returns-in_err-file-clause-between
returns-in_err-file-clause-between c = entries_bound_distance _ (search rules)

pub returns-in-Some-clause-bounds : goal.returns-in-Some-clause-bounds
returns-in-Some-clause-bounds c = registers_bound _ (search rules)

pub returns-in-Some-clause-settled : goal.returns-in-Some-clause-settled
returns-in-Some-clause-settled c = settled_is_distance _ (search rules)

pub returns-in-Some-clause-between : goal.returns-in-Some-clause-between
returns-in-Some-clause-between c = entries_bound_distance _ (search rules)

pub returns-clause-bounds : goal.returns-clause-bounds
returns-clause-bounds c = registers_bound _ (search rules)

pub returns-clause-settled : goal.returns-clause-settled
returns-clause-settled c = settled_is_distance _ (search rules)

pub returns-clause-between : goal.returns-clause-between
returns-clause-between c = entries_bound_distance _ (search rules)
