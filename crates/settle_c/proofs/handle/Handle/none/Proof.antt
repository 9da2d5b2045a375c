-- `none` makes a handle of the null pointer.
use Rattle.std.proofs.Common.{◌≡◌, [], ◌∷◌, refl, None, Option, lit<}
use base.Logic.{emp}
use base.Fml.{ftrue}
use types.Kit.{‵, raw, ◌⊛◌, ◌$◌, ◌∵◌, !, qed, by, keep, split, feq_i, use0}
use types.Run.{lit, no_more, and_then, returns, enter}
use types.ByLocal.{alloc_all, pass_all, free_all, look_at, sets}
use types.Part.{agg}
use contract.Monad.{fact, fact_i}
use denote.RawPtr.{Ptr, null_ptr, ptr_val}
use Rattle.std.proofs.raw_atomic.Walks.{proved, leaves}
use Rattle.file_registers.specs.declared.registers.FileRegister.{FileRegister}
use Rattle.settle_c.proofs.Values.{word, handle_in}
use Rattle.settle_c.specs.contracts.handle.Handle.none as f
use Rattle.settle_c.proofs.handle.Handle.none.Statement.{statement}
use Rattle.settle_c.proofs.handle.Handle.none.Code as code

pub none_spec : {M : Type 1} → statement M
none_spec 𝓤 𝓛 𝓜 𝓡 wired =
    let c = f.clauses 𝓛 𝓜.mem 𝓡.returns in let empty : Option FileRegister = None in
    proved 𝓛 f.ended tt c 𝓜 𝓡 tt
    f.Key.name code.function (code.unfolded 𝓤 𝓛.H 𝓜 𝓡 wired) (λ κs. tt) (λ κs. tt) (λ κs qs bounds a n are.
    qed 𝓛 ((‵ ftrue ⊛ ‵ ftrue) ∷ ‵ ftrue ∷ []) ∵ split ! $
    enter ! _ _ _ _ _ $ alloc_all ! (λ l. pass_all ! refl tt $
    sets ! (agg ! (and_then ! (lit ! tt) (no_more !))) refl (tt, (record { fits = lit< tt }, tt)) $
    returns ! (look_at ! 0 refl) $ free_all ! refl $
    feq_i ! Ptr null_ptr null_ptr refl $ handle_in ! null_ptr None $ use0 𝓛 (raw (fact 𝓤 (empty ≡ None))) (fact_i 𝓤 (empty ≡ None) (emp 𝓤) refl) $
    keep ! (2 ∷ 3 ∷ 1 ∷ 0 ∷ []) $ by ! (leaves 𝓛 f.ended tt c ((κs, qs, bounds, a, tt), n) (word (ptr_val null_ptr)) (record { at = null_ptr; register = None }) tt tt)))
