-- The weighted chart that a file holds, and why a file is not read.
use Rattle.std.specs.Prelude.{ℕ, ◌+◌, ◌*◌, cond, not, ◌&&◌, List, [], ◌∷◌, Option, Result, ◌==◌, nat_lt}
use Rattle.std.specs.Option.{option_map}
use Rattle.finite.specs.Sums.{sum}
use Rattle.finite.specs.Search.{first_of, least}
use Rattle.files.specs.declared.kind.Kind.TheVariants.{Weighted as weighted_kind}
use Rattle.files.specs.declared.refusal.ReadRefusal.{ReadRefusal}
use Rattle.files.specs.declared.refusal.ReadRefusal.TheVariants.{Row}
use Rattle.files.specs.Format.{field, sections_field, numerator_field, denominator_field, whole_field, routes_field}
use Rattle.files.specs.Headers.{band_in}
use Rattle.files.specs.Reading.{unless_refused}
use Rattle.files.specs.Refusals.{header_refusal}
use Rattle.chain.specs.Chain.{Chain}

-- the routes are a row for each section, with 16 bits for each section; what is outside the sections counts as 0
abbrev pub part_in : List ℕ → ℕ → ℕ → ℕ
part_in bs s u = cond (nat_lt s (sections_field bs) && nat_lt u (sections_field bs)) (field bs (routes_field bs + 2 * (s * sections_field bs + u))) 0

-- the chain that a file holds
abbrev pub chain_in : List ℕ → Chain
chain_in bs = record {
  n = sections_field bs;
  a = numerator_field bs;
  b = denominator_field bs;
  whole = whole_field bs;
  band = band_in bs;
  part = part_in bs;
}

-- the first check that the file fails: one of its header's, or a row that does not add up
abbrev pub read_refusal : List ℕ → Option ReadRefusal
read_refusal bs = first_of (
    header_refusal weighted_kind bs
    ∷ option_map Row (least (sections_field bs) (λ s. not (sum (sections_field bs) (part_in bs s) == whole_field bs)))
    ∷ [])

-- what a reader answers: the refusal, if there is one, and else the number of sections
abbrev pub read_answer : List ℕ → Result ℕ ReadRefusal
read_answer bs = unless_refused (read_refusal bs) (sections_field bs)

-- one section of band 0 with a route to itself, discount 1/2, and 1 part
abbrev pub fresh_chain : Chain
fresh_chain = record { n = 1; a = 1; b = 2; whole = 1; band = λ s. 0; part = λ s u. cond (s == 0 && u == 0) 1 0 }
