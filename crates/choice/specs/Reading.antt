-- The transition system that a file of a choice chart holds, and why a file is not read.
use Rattle.std.specs.Prelude.{ℕ, ◌+◌, ◌*◌, ◌^◌, Bool, cond, not, ◌&&◌, List, [], ◌∷◌, Option, Result, ◌==◌, nat_lt}
use Rattle.std.specs.Option.{option_map}
use Rattle.finite.specs.Search.{first_of, least}
use Rattle.files.specs.declared.kind.Kind.TheVariants.{Choice as choice_kind}
use Rattle.files.specs.declared.refusal.ReadRefusal.{ReadRefusal}
use Rattle.files.specs.declared.refusal.ReadRefusal.TheVariants.{Mask}
use Rattle.files.specs.Format.{long_field, sections_field, numerator_field, denominator_field, routes_field}
use Rattle.files.specs.Headers.{band_in}
use Rattle.files.specs.Reading.{unless_refused}
use Rattle.files.specs.Refusals.{header_refusal}
use Rattle.transitions.specs.System.{System}
use Rattle.choice.specs.View.{marks}

-- the routes are a mask of 32 bits for each section; what is outside the sections counts as 0
abbrev pub mask_in : List ℕ → ℕ → ℕ
mask_in bs s = cond (nat_lt s (sections_field bs)) (long_field bs (routes_field bs + 4 * s)) 0

-- the system that a file holds
abbrev pub system_in : List ℕ → System
system_in bs = record {
  n = sections_field bs;
  a = numerator_field bs;
  b = denominator_field bs;
  band = band_in bs;
  leads = λ s u. marks (mask_in bs s) u;
}

-- a mask marks some section, and none of n or above
abbrev pub mask_allowed : ℕ → ℕ → Bool
mask_allowed n mask = not (mask == 0) && nat_lt mask (2 ^ n)

-- the first check that the file fails: one of its header's, or a mask that is not allowed
abbrev pub read_refusal : List ℕ → Option ReadRefusal
read_refusal bs = first_of (
    header_refusal choice_kind bs
    ∷ option_map Mask (least (sections_field bs) (λ s. not (mask_allowed (sections_field bs) (mask_in bs s))))
    ∷ [])

-- what a reader answers: the refusal, if there is one, and else the number of sections
abbrev pub read_answer : List ℕ → Result ℕ ReadRefusal
read_answer bs = unless_refused (read_refusal bs) (sections_field bs)

-- one section of band 0 with a route to itself, and discount 1/2
abbrev pub fresh_system : System
fresh_system = record { n = 1; a = 1; b = 2; band = λ s. 0; leads = λ s u. s == 0 && u == 0 }
