use Rattle.std.proofs.Common.{arith}
use Rattle.lines.proofs.Values.{too_great, digit_more, no_digit, digits_all}
use Rattle.lines.proofs.numerals.read_numeral.Goals as goal

pub returns : goal.returns
returns c = grind (arith, digits_all)

pub returns-then-not-is_ascii_digit : goal.returns-then-not-is_ascii_digit
returns-then-not-is_ascii_digit c = grind (arith, no_digit)

pub returns-then-value-from : goal.returns-then-value-from
returns-then-value-from c = grind (arith, digit_more, too_great)

pub loop-byte-preserved : goal.loop-byte-preserved
loop-byte-preserved c = grind (arith, digit_more)
