-- What a file's header is read as.
use Rattle.std.specs.Prelude.{◌≡◌, ℕ, ◌+◌, ◌<◌, ◌≤◌, true, List, length, Some, None, Ok, Err, Option, Result}
use Rattle.files.specs.declared.header.Header.{Header}
use Rattle.files.specs.declared.kind.Kind.{Kind}
use Rattle.files.specs.declared.refusal.ReadRefusal.{ReadRefusal}
use Rattle.files.specs.Format.{sections_field, numerator_field, denominator_field, whole_field, bands_field, routes_field}
use Rattle.files.specs.Kinds.{whole_allowed, route_bytes}
use Rattle.files.specs.Headers.{header_of}
use Rattle.files.specs.Refusals.{header_refusal}

-- the refusal, if there is one, and else what is read
abbrev pub unless_refused : {X : Type 0} → Option ReadRefusal → X → Result X ReadRefusal
unless_refused (Some e) x = Err e
unless_refused None x = Ok x

-- what a file's header is read as
abbrev pub header_read : Kind → List ℕ → Result Header ReadRefusal
header_read kind bs = unless_refused (header_refusal kind bs) (header_of bs)

-- what is known of a header that is read
pub record Fits (kind : Kind) (bs : List ℕ) (h : Header) : Type 0 where
  pub some_sections : 1 ≤ h.sections
  pub few_sections : h.sections ≤ 32
  pub some_numerator : 1 ≤ h.numerator
  pub below_one : h.numerator < h.denominator
  pub few_denominator : h.denominator ≤ 1000
  pub allowed_whole : whole_allowed kind h.whole ≡ true
  pub bands_after : 16 ≤ h.bands_at
  pub bands_end : h.bands_at + h.sections ≤ length bs
  pub routes_after : 16 ≤ h.routes_at
  pub routes_end : h.routes_at + route_bytes kind h.sections ≤ length bs
  pub sections_is : h.sections ≡ sections_field bs
  pub numerator_is : h.numerator ≡ numerator_field bs
  pub denominator_is : h.denominator ≡ denominator_field bs
  pub whole_is : h.whole ≡ whole_field bs
  pub bands_is : h.bands_at ≡ bands_field bs
  pub routes_is : h.routes_at ≡ routes_field bs
