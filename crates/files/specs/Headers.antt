-- What a header says, and what it may say.
use Rattle.std.specs.Prelude.{ℕ, ◌+◌, Bool, cond, ◌&&◌, List, nat_le, nat_lt}
use Rattle.files.specs.declared.header.Header.{Header}
use Rattle.files.specs.declared.kind.Kind.{Kind}
use Rattle.files.specs.declared.span.Span.{Span}
use Rattle.files.specs.Format.{byte, sections_field, numerator_field, denominator_field, whole_field, bands_field, routes_field}
use Rattle.files.specs.Kinds.{route_bytes}

-- the header's fields
abbrev pub header_of : List ℕ → Header
header_of bs = record {
  sections = sections_field bs;
  numerator = numerator_field bs;
  denominator = denominator_field bs;
  whole = whole_field bs;
  bands_at = bands_field bs;
  routes_at = routes_field bs;
}

-- from 1 to 32
abbrev pub sections_allowed : ℕ → Bool
sections_allowed n = nat_le 1 n && nat_le n 32

-- 1 ≤ a < b ≤ 1000
abbrev pub discount_allowed : ℕ → ℕ → Bool
discount_allowed a b = nat_le 1 a && (nat_lt a b && nat_le b 1000)

-- the bands are a byte for each section
abbrev pub bands_span : Header → Span
bands_span h = record { at = h.bands_at; size = h.sections }

abbrev pub routes_span : Kind → Header → Span
routes_span kind h = record { at = h.routes_at; size = route_bytes kind h.sections }

-- the band of each section, by the header; what is outside the sections counts as 0
abbrev pub band_by : Header → List ℕ → ℕ → ℕ
band_by h bs s = cond (nat_lt s h.sections) (byte bs (h.bands_at + s)) 0

-- the band of each section in a file
abbrev pub band_in : List ℕ → ℕ → ℕ
band_in bs = band_by (header_of bs) bs
