-- Where a table lies in a file.
use Rattle.std.specs.Prelude.{ℕ, ◌+◌, Bool, ◌&&◌, is_some, nat_le, nat_lt}
use Rattle.finite.specs.Search.{least}
use Rattle.files.specs.declared.span.Span.{Span}

-- wholly in a file of so many bytes, after the 16 bytes of the header
abbrev pub in_file : ℕ → Span → Bool
in_file total s = nat_le 16 s.at && nat_le (s.at + s.size) total

-- the byte i is one of the span's
abbrev pub inside : Span → ℕ → Bool
inside s i = nat_le s.at i && nat_lt i (s.at + s.size)

-- some byte of the file is in both
abbrev pub share_byte : ℕ → Span → Span → Bool
share_byte total s t = is_some (least total (λ i. inside s i && inside t i))
