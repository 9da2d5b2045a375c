-- Why a file is not read.
use Rattle.std.specs.Prelude.{ℕ, not, List, [], ◌∷◌, length, Option, ◌==◌, nat_lt}
use Rattle.finite.specs.Search.{given, first_of}
use Rattle.files.specs.declared.header.Header.{Header}
use Rattle.files.specs.declared.kind.Kind.{Kind}
use Rattle.files.specs.declared.refusal.ReadRefusal.{ReadRefusal}
use Rattle.files.specs.declared.refusal.ReadRefusal.TheVariants.{Short, Length, OtherKind, Sections, Discount, Whole, Bands, Routes, Row, Mask}
use Rattle.files.specs.Format.{kind_field, length_field}
use Rattle.files.specs.Kinds.{code, whole_allowed}
use Rattle.files.specs.Headers.{header_of, sections_allowed, discount_allowed, bands_span, routes_span}
use Rattle.files.specs.Spans.{in_file, share_byte}

-- the number of the check that failed
abbrev pub number : ReadRefusal → ℕ
number (Short size) = 1
number Length = 1
number OtherKind = 2
number Sections = 3
number Discount = 4
number Whole = 5
number Bands = 6
number Routes = 6
number (Row section) = 7
number (Mask section) = 7

-- the place of what is wrong: the file's size, a field of the header, or a section
abbrev pub place : ReadRefusal → ℕ
place (Short size) = size
place Length = 14
place OtherKind = 0
place Sections = 2
place Discount = 4
place Whole = 8
place Bands = 10
place Routes = 12
place (Row section) = section
place (Mask section) = section

-- the first check that a file with this header fails
unfoldable pub refusal_of : Kind → List ℕ → Header → Option ReadRefusal
refusal_of kind bs h = first_of (
    given (nat_lt (length bs) 16) (Short (length bs))
    ∷ given (not (length_field bs == length bs)) Length
    ∷ given (not (kind_field bs == code kind)) OtherKind
    ∷ given (not (sections_allowed h.sections)) Sections
    ∷ given (not (discount_allowed h.numerator h.denominator)) Discount
    ∷ given (not (whole_allowed kind h.whole)) Whole
    ∷ given (not (in_file (length bs) (bands_span h))) Bands
    ∷ given (not (in_file (length bs) (routes_span kind h))) Routes
    ∷ given (share_byte (length bs) (bands_span h) (routes_span kind h)) Routes
    ∷ [])

-- the first check that the header of a file fails
abbrev pub header_refusal : Kind → List ℕ → Option ReadRefusal
header_refusal kind bs = refusal_of kind bs (header_of bs)
