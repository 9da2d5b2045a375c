-- What the kinds of chart differ in, in a file.
use Rattle.std.specs.Prelude.{ℕ, ◌*◌, Bool, ◌&&◌, List, [], ◌∷◌, Option, ◌==◌, nat_le}
use Rattle.finite.specs.Search.{given, first_of}
use Rattle.files.specs.declared.kind.Kind.{Kind}
use Rattle.files.specs.declared.kind.Kind.TheVariants.{Weighted, Choice}
use Rattle.files.specs.Format.{kind_field}

-- the number by which a file names the kind
abbrev pub code : Kind → ℕ
code Weighted = 1
code Choice = 2

-- the kind that a file names, if it names one
abbrev pub kind_named : List ℕ → Option Kind
kind_named bs = first_of (given (kind_field bs == code Weighted) Weighted ∷ given (kind_field bs == code Choice) Choice ∷ [])

-- what the whole may be: a choice chart has none
abbrev pub whole_allowed : Kind → ℕ → Bool
whole_allowed Weighted whole = nat_le 1 whole && nat_le whole 10000
whole_allowed Choice whole = whole == 0

-- how many bytes the routes of n sections take: n rows of n parts, of two bytes each, or n masks of four bytes each
abbrev pub route_bytes : Kind → ℕ → ℕ
route_bytes Weighted n = 2 * (n * n)
route_bytes Choice n = 4 * n
