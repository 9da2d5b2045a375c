-- What becomes of two charts that are to be put together.
use Rattle.std.specs.Prelude.{Bool, true, false, Ok, Err, Result}
use Rattle.sittings.specs.declared.misfit.Misfit.{Misfit}
use Rattle.sittings.specs.declared.two.Sittings.{Sittings}

-- the two put together if they fit, or else handed back
abbrev pub made : {X Y : Type 0} → Bool → X → Y → Result (Sittings X Y) (Misfit X Y)
made true first second = Ok (record { first = first; second = second })
made false first second = Err (record { first = first; second = second })
