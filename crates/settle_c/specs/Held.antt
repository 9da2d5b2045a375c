-- What a handle owns: of no register its pointer is null; else the register stands at the pointer, in a block of the heap that may be freed.
use Rattle.std.specs.Prelude.{Some, None, Option}
use mir.Syntax.{Ty}
use base.Fml.{Fml, feq}
use denote.RattleType.{RattleType}
use denote.RawPtr.{Ptr, null_ptr}
use Rattle.std.specs.Box.Ownership.{box_owns}
use Rattle.std.specs.declared.alloc.Global.{Global}
use Rattle.std.specs.contracts.impls.GlobalAllocator.TheImpl.{ghosts}

-- the heap, which is one value
abbrev pub heap : Global
heap = record { memory = record { seal = tt } }

-- the right to free a block
abbrev pub frees : Ty → Ptr → Fml
frees = ghosts.dealloc_token heap

abbrev pub holds : (R : RattleType) → Ptr → Option R.Denot → Fml
holds R p None = feq Ptr p null_ptr
holds R p (Some x) = box_owns frees R p x
