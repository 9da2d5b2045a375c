-- The fields of a chart file's header.
use Rattle.std.specs.Prelude.{ℕ, ◌+◌, ◌*◌, List, slice_index}

-- the byte at a place, 0 past the end
abbrev pub byte : List ℕ → ℕ → ℕ
byte bs i = slice_index bs i

-- the 16 bits from a place on, high byte first
abbrev pub field : List ℕ → ℕ → ℕ
field bs i = 256 * byte bs i + byte bs (i + 1)

-- the 32 bits from a place on, high byte first
abbrev pub long_field : List ℕ → ℕ → ℕ
long_field bs i = 65536 * field bs i + field bs (i + 2)

abbrev pub kind_field : List ℕ → ℕ
kind_field bs = field bs 0

abbrev pub sections_field : List ℕ → ℕ
sections_field bs = field bs 2

-- the discount is numerator / denominator
abbrev pub numerator_field : List ℕ → ℕ
numerator_field bs = field bs 4

abbrev pub denominator_field : List ℕ → ℕ
denominator_field bs = field bs 6

-- what each row of a weighted chart adds up to
abbrev pub whole_field : List ℕ → ℕ
whole_field bs = field bs 8

-- where the bands begin
abbrev pub bands_field : List ℕ → ℕ
bands_field bs = field bs 10

-- where the routes begin
abbrev pub routes_field : List ℕ → ℕ
routes_field bs = field bs 12

-- the file's size
abbrev pub length_field : List ℕ → ℕ
length_field bs = field bs 14
