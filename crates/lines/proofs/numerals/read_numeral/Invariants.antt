use Rattle.std.proofs.Common.{◌≡◌, ◌≤◌, drop}
use Rattle.lines.specs.Numerals.{digits_after, numeral}
use Rattle.lines.proofs.numerals.read_numeral.Given as goal

-- the digits that are left, after the value so far, write the number
abbrev pub invariant-loop-byte : goal.invariant-loop-byte
invariant-loop-byte l = (l.value ≤ l.most) × (digits_after l.value (drop l.byte-index l.field) ≡ numeral l.field)
