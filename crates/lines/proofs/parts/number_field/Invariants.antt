use Rattle.lines.specs.Numerals.{number_of}
use Rattle.lines.proofs.parts.number_field.Given as goal

abbrev pub ghost-first_field : goal.ghost-first_field
ghost-first_field a = number_of
