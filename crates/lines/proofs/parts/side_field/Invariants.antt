use Rattle.lines.specs.Reading.{side_of}
use Rattle.lines.proofs.parts.side_field.Given as goal

abbrev pub ghost-first_field : goal.ghost-first_field
ghost-first_field a = side_of
