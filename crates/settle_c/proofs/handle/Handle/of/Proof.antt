-- `of` takes the box apart.
use Rattle.std.proofs.Common.{◌≡◌, List, [], ◌∷◌, ◌++◌, refl, sym, ap, subst, Some, Option}
use mir.Syntax.{impl, tcons, tnil, dnil}
use mir.Raw.{raw as bare}
use mir.Val.{Val}
use base.Logic.{SProp, ent, emp, id⊢}
use base.Fml.{ftrue, flft}
use prog.Wp.{WpFn}
use types.Kit.{‵, raw, ◌⊛◌, some, later, ◌$◌, ◌∵◌, !, qed, by, move, keep, drop, split, join, fsplit, fjoin, pick, suffices, use0, use1, await, feq_l}
use types.Tokens.{lft_new}
use base.Fraction.{full_share}
use contract.BorrowLft.{◌⊑◌, ⊑_static}
use denote.Triple.Table.{framed}
use types.Run.{of_opd, no_more, and_then, returns, enter}
use types.ByLocal.{alloc_all, pass_all, free_all, look_at, get, sets, lands_as}
use types.Part.{agg}
use contract.Monad.{fact, fact_i}
use contract.Running.{tables}
use denote.Exit.{yes, no}
use denote.RattleType.{RattleType, owns}
use denote.Signature.{types_at, plain}
use denote.Builtin.{RawPtr}
use denote.RawPtr.{Ptr, ptr_val, rawptr_Lawful}
use denote.Steps.{nothing, only}
use denote.Param.{layout, arg}
use denote.Param.Laws.{Laws, arg_laws}
use denote.Param.NoDrop.{glues}
use denote.Triple.Clauses.{Lasts, lasts}
use denote.Triple.Spec.{triple_of}
use denote.Triple.Call.{calls_at}
use denote.Triple.Walked.{Stays, stay_dropped, walk_of, Goes-dropped}
use Rattle.settle_c.specs.Held.{frees}
use Rattle.std.specs.Box.Ownership.{box_owns}
use Rattle.std.specs.contracts.alloc.Global as heap
use Rattle.std.proofs.alloc.Global.TheLaws as heap_laws
use Rattle.std.specs.contracts.impls.GlobalAllocator.TheImpl.{ghosts, dict}
use Rattle.std.proofs.impls.GlobalAllocator.TheImpl.Met.{passed}
use Rattle.std.specs.contracts.boxed.Box as boxed
use Rattle.std.proofs.BoxSteps.Form as box
use Rattle.std.proofs.ResultValues.{and_tt}
use Rattle.std.proofs.BoxSteps.Steps.{box_out, box_in}
use Rattle.std.proofs.raw_atomic.Walks.{proved_at, leaves}
use Rattle.std.specs.contracts.boxed.Box.into_raw as callee
use Rattle.std.proofs.boxed.Box.into_raw.Met.{met}
use Rattle.file_registers.specs.declared.registers.FileRegister.{FileRegister}
use Rattle.file_registers.specs.contracts.registers.FileRegister as register
use Rattle.file_registers.proofs.registers.FileRegister.TheLaws as register_laws
use Rattle.settle_c.proofs.Values.{word, handle_in}
use Rattle.settle_c.specs.contracts.handle.Handle.of as f
use Rattle.settle_c.proofs.handle.Handle.of.Statement.{statement}
use Rattle.settle_c.proofs.handle.Handle.of.Code as code
use Rattle.settle_c.proofs.Destruct++none.drop.Code

pub of_spec : {M : Type 1} → statement M
unfolding Rattle.settle_c.proofs.Destruct++none.drop.Code.code
of_spec 𝓤 𝓛 𝓜 𝓡 wired =
    let H = 𝓛.H in let 𝓣 = tables 𝓤 H 𝓜 𝓡 𝓡.env in let R : RattleType = register.the_row in let Z : RattleType = heap.the_row in let c = f.clauses 𝓛 𝓜.mem 𝓡.returns in
    let RA : RattleType = arg (bare (layout R)) no R in let ZA : RattleType = arg (bare (layout Z)) no Z in let LR : Laws RA = arg_laws (bare (layout R)) no R register_laws.the_row_laws refl in let LZ : Laws ZA = arg_laws (bare (layout Z)) no Z heap_laws.the_row_laws refl in
    let dd = impl ("settle_c::Destruct++none::drop" ∷ []) (tcons (bare (layout Z)) tnil) dnil in let dx = impl ("settle_c::Destruct++none::drop" ∷ []) (tcons (bare (layout R)) tnil) dnil in
    let E : box.Bx = record { row = R; laws = register_laws.the_row_laws; al = record { row = Z; laws = heap_laws.the_row_laws; g = ghosts; d = dict; drops = dd } } in
    let some_of : FileRegister → Option FileRegister = Some in let B : RattleType = boxed.the_row R Z ghosts in
    let hs : Stays f.ended.signature.params f.ended.kept = (stay_dropped (plain (λ _. B)) yes, tt) in
    proved_at 𝓛 f.ended hs c 𝓜 𝓡 (Goes-dropped 𝓛 0 (plain (λ _. B)) yes (λ κs x w. refl), tt) f.Key.name code.function (code.unfolded 𝓤 H 𝓜 𝓡 wired) (λ z are.
    let κs = z.0.0 in let qs = z.0.1 in let v = z.0.3.0 in let Post : Val → SProp 𝓤 = (walk_of 𝓛 f.ended hs c).post z in let Run : List Val → SProp 𝓤 = λ ws. WpFn 𝓤 H 𝓣.C 𝓣.Λ code.function ws Post in
    qed 𝓛 ((‵ ftrue ⊛ ‵ (owns (types_at f.ended.signature.params κs) z.0.3 z.0.4)) ∷ ‵ ftrue ∷ []) ∵ split ! $ move ! (1 ∷ []) $ fsplit ! $ box_out E ! v z.0.4.0 (λ b o h e ws fits. box_in E ! v b o v.value e refl $
    let w : Val = box.word E h b o in let typed = box.box_typed E h b o fits in let k = triple_of 𝓛 (callee.signature RA ZA ghosts dict dd dx) (callee.spec RA ZA ghosts dict dd dx 𝓛 𝓜.mem 𝓡.returns) in
    suffices ! (Run (w ∷ [])) (subst (λ (us : List Val). ent 𝓤 (Run (w ∷ [])) (Run us)) (sym (λ i. ws i ++ [])) (id⊢ 𝓤 (Run (w ∷ [])))) $
    enter ! 𝓣.C 𝓣.Λ code.function (w ∷ []) Post $ alloc_all ! (λ l. pass_all ! refl (typed, tt) $ sets ! (of_opd ! (get ! refl)) refl typed $ fjoin ! $
    lft_new ! tt (λ α. lft_new ! tt (λ β. let y : k.Ghost = (((α ∷ [], (β ∷ [], tt)), (full_share, (full_share, tt)), tt, (v, tt), (w ∷ [], tt)), tt) in
    nothing ! $ move ! (1 ∷ 0 ∷ []) $ join ! $ move ! (1 ∷ 0 ∷ []) $ join ! $ join ! $
    nothing ! $ use0 𝓛 (raw (fact 𝓤 (β ∷ [] ⊑ Z.lives))) (fact_i 𝓤 (β ∷ [] ⊑ Z.lives) (emp 𝓤) (⊑_static (β ∷ []))) $ join ! $ use0 𝓛 (raw (fact 𝓤 (α ∷ [] ⊑ R.lives))) (fact_i 𝓤 (α ∷ [] ⊑ R.lives) (emp 𝓤) (⊑_static (α ∷ []))) $ join ! $
    move ! (1 ∷ 0 ∷ []) $ join ! $ use1 𝓛 (raw (k.pre y)) (id⊢ 𝓤 _) $
    calls_at ! (framed 𝓤 H 𝓜 𝓣) k (met 𝓤 𝓛 𝓜 𝓡 (code.calls-std_alloc::boxed::Box::into_raw 𝓡.env wired) RA ZA LR LZ ghosts dict dd dx
    (passed 𝓡.env (code.calls-std_heap::GlobalAllocator::allocate 𝓡.env wired) (code.calls-std_heap::GlobalAllocator::deallocate 𝓡.env wired) (code.calls-std_heap::GlobalAllocator::grow 𝓡.env wired) (code.calls-std_heap::GlobalAllocator::shrink 𝓡.env wired) _ 𝓤 𝓛 𝓜 𝓡)
    (glues "settle_c::Destruct++none::drop" 𝓡.env (code.calls-settle_c::Destruct++none::drop 𝓡.env wired) ZA LZ _ 𝓤 𝓛 𝓜 𝓡)
    (glues "settle_c::Destruct++none::drop" 𝓡.env (code.calls-settle_c::Destruct++none::drop 𝓡.env wired) RA LR _ 𝓤 𝓛 𝓜 𝓡)) y (and_then ! (get ! refl) (no_more !)) (λ u.
    use1 𝓛 (later (some (λ (r : Ptr). ((‵ (flft (α ∷ []) full_share) ⊛ ‵ (flft (β ∷ []) full_share) ⊛ ‵ ftrue) ⊛ ‵ (RawPtr.own_val r (u ∷ []))) ⊛ some (λ (ls : Lasts (callee.ended RA ZA ghosts dict dd dx) y.0.0 y.0.3). ‵ (lasts (callee.ended RA ZA ghosts dict dd dx) y.0.0 y.0.3 ls) ⊛ ‵ (box_owns frees R r v.value))))) (id⊢ 𝓤 (k.post y u)) $
    await ! tt $ pick ! (λ r. split ! $ split ! $ drop ! $ move ! (1 ∷ []) $ pick ! (λ ls. split ! $ drop ! $ move ! (1 ∷ []) $ feq_l ! (λ eu. let good = ((rawptr_Lawful 𝓛).typed r _ refl).0 in
    lands_as ! (ap only eu) refl good $ sets ! (agg ! (and_then ! (get ! refl) (no_more !))) refl (and_tt _ good.0, (good.1, tt)) $
    handle_in ! r (Some v.value) $ use0 𝓛 (raw (fact 𝓤 (some_of v.value ≡ Some v.value))) (fact_i 𝓤 (some_of v.value ≡ Some v.value) (emp 𝓤) refl) $ nothing ! $ nothing ! $ fjoin ! $
    returns ! (look_at ! 0 refl) $ free_all ! refl $ keep ! (3 ∷ 0 ∷ 2 ∷ 1 ∷ []) $ by ! (leaves 𝓛 f.ended hs c z (word (ptr_val r)) (record { at = r; register = Some v.value }) (tt, tt) (tt, tt)))))))))))
