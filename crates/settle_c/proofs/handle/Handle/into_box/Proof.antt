-- `into_box` tests the pointer, and makes the box again.
use Rattle.std.proofs.Common.{◌≡◌, List, [], ◌∷◌, ◌++◌, refl, sym, ap, ◌∙◌, subst, Some, None, Option, option_map, lit<}
use lib.Dec.{T}
use mir.Syntax.{impl, tcons, tnil, dnil}
use mir.Raw.{raw as bare}
use mir.Val.{Val, vptr, vcons, vnil, has_ty, WT}
use base.Fraction.{full_share}
use base.Logic.{SProp, ent, emp, id⊢}
use base.Fml.{ftrue, flft}
use prog.Wp.{WpFn}
use types.Kit.{‵, raw, ◌⊛◌, some, later, at_ret, ◌$◌, ◌∵◌, !, qed, by, move, keep, drop, split, split3, join, fsplit, fjoin, pick, suffices, use0, use1, await, rewrite, feq_i}
use types.Tokens.{lft_new}
use types.Run.{stop, fld, lit, of_opd, bin, no_more, and_then, first, blocks, branches, skips, exec, returns, returns_within, enter}
use types.ByLocal.{alloc_all, pass_all, free_all, look_at, get, get_in, sets, lands_last, env}
use types.Part.{agg, sub, whole}
use types.Match.{live}
use contract.BorrowLft.{◌⊑◌, ⊑_static}
use contract.Monad.{fact, fact_i}
use contract.Running.{tables}
use denote.Exit.{yes, no}
use denote.RattleType.{RattleType, owns}
use denote.Signature.{types_at, type_at, plain}
use denote.RawPtr.{Ptr, block_ptr, null_ptr, ptr_val, tests_null}
use denote.Steps.{nothing, heard, only}
use denote.Param.{layout, arg}
use denote.Param.Laws.{Laws, arg_laws}
use denote.Param.NoDrop.{glues}
use denote.Triple.Clauses.{Lasts, lasts}
use denote.Triple.Spec.{triple_of}
use denote.Triple.Table.{framed}
use denote.Triple.Call.{calls_at_last}
use denote.Triple.Walked.{Stays, stay_dropped, walk_of, Goes-dropped}
use Rattle.core.proofs.alloc.Calls.{Al, handle_tells}
use Rattle.core.proofs.option.Made.{Some-of, none_of}
use Rattle.std.specs.contracts.alloc.Global as heap
use Rattle.std.proofs.alloc.Global.TheLaws as heap_laws
use Rattle.std.specs.contracts.impls.GlobalAllocator.TheImpl.{ghosts, dict}
use Rattle.std.proofs.impls.GlobalAllocator.TheImpl.Met.{passed}
use Rattle.std.proofs.VecSteps.Shapes.{after}
use Rattle.std.proofs.ResultValues.{and_tt}
use Rattle.std.specs.contracts.boxed.Box as boxed
use Rattle.std.proofs.BoxSteps.Form as box
use Rattle.std.proofs.BoxSteps.Steps.{box_out, box_in}
use Rattle.std.proofs.raw_atomic.Walks.{proved_at, leaves}
use Rattle.std.specs.contracts.boxed.Box.from_raw as callee
use Rattle.std.proofs.boxed.Box.from_raw.Met.{met}
use Rattle.file_registers.specs.declared.registers.FileRegister.{FileRegister}
use Rattle.file_registers.specs.contracts.registers.FileRegister as register
use Rattle.file_registers.proofs.registers.FileRegister.TheLaws as register_laws
use Rattle.settle_c.specs.contracts.handle.Handle as handle
use Rattle.settle_c.proofs.Values.{word, handle_out, holds_out}
use Rattle.settle_c.specs.contracts.handle.Handle.into_box as f
use Rattle.settle_c.proofs.handle.Handle.into_box.Statement.{statement}
use Rattle.settle_c.proofs.handle.Handle.into_box.Code as code
use Rattle.settle_c.proofs.Destruct++none.drop.Code

pub into_box_spec : {M : Type 1} → statement M
unfolding Rattle.settle_c.proofs.Destruct++none.drop.Code.code
into_box_spec 𝓤 𝓛 𝓜 𝓡 wired =
    let H = 𝓛.H in let 𝓣 = tables 𝓤 H 𝓜 𝓡 𝓡.env in let R : RattleType = register.the_row in let Z : RattleType = heap.the_row in let c = f.clauses 𝓛 𝓜.mem 𝓡.returns in
    let RA : RattleType = arg (bare (layout R)) no R in let ZA : RattleType = arg (bare (layout Z)) no Z in let LR : Laws RA = arg_laws (bare (layout R)) no R register_laws.the_row_laws refl in let LZ : Laws ZA = arg_laws (bare (layout Z)) no Z heap_laws.the_row_laws refl in
    let dd = impl ("settle_c::Destruct++none::drop" ∷ []) (tcons (bare (layout Z)) tnil) dnil in
    let al : Al = record { row = Z; laws = heap_laws.the_row_laws; g = ghosts; d = dict; drops = dd } in
    let E : box.Bx = record { row = R; laws = register_laws.the_row_laws; al = al } in let B : RattleType = boxed.the_row R Z ghosts in
    let hs : Stays f.ended.signature.params f.ended.kept = (stay_dropped (plain (λ _. handle.the_row)) yes, (stay_dropped (plain (λ _. Z)) yes, tt)) in
    proved_at 𝓛 f.ended hs c 𝓜 𝓡 (Goes-dropped 𝓛 0 (plain (λ _. handle.the_row)) yes (λ κs x w. refl), (Goes-dropped 𝓛 0 (plain (λ _. Z)) yes (λ κs x w. refl), tt)) f.Key.name code.function (code.unfolded 𝓤 H 𝓜 𝓡 wired) (λ z are.
    let κs = z.0.0 in let d = z.0.3.0 in let a = z.0.3.1.0 in let Post : Val → SProp 𝓤 = (walk_of 𝓛 f.ended hs c).post z in let Run : List Val → SProp 𝓤 = λ ws. WpFn 𝓤 H 𝓣.C 𝓣.Λ code.function ws Post in
    let Out : RattleType = type_at f.ended.signature.result κs in
    qed 𝓛 ((‵ ftrue ⊛ ‵ (owns (types_at f.ended.signature.params κs) z.0.3 z.0.4)) ∷ ‵ ftrue ∷ []) ∵ split ! $ move ! (1 ∷ []) $ fsplit ! $
    handle_out ! d z.0.4.0 (λ ws. move ! (1 ∷ []) $ fsplit ! $ handle_tells al ! a z.0.4.1.0 (λ h eh fits. move ! (2 ∷ []) $
    let arguments : List Val → Val → List Val = λ us v. us ++ (v ∷ []) in
    suffices ! (Run (word (ptr_val d.at) ∷ h ∷ [])) (subst (λ (us : List Val). ent 𝓤 (Run (word (ptr_val d.at) ∷ h ∷ [])) (Run (us ++ (z.0.4.1.0 ++ [])))) (sym ws) (subst (λ (us : List Val). ent 𝓤 (Run (word (ptr_val d.at) ∷ h ∷ [])) (Run (word (ptr_val d.at) ∷ (us ++ [])))) (sym eh) (id⊢ 𝓤 (Run (word (ptr_val d.at) ∷ h ∷ []))))) $
    let at : (p : Ptr) → d.at ≡ p → ent 𝓤 (Run (word (ptr_val p) ∷ h ∷ [])) (Run (word (ptr_val d.at) ∷ h ∷ [])) = λ p is. subst (λ (q : Ptr). ent 𝓤 (Run (word (ptr_val p) ∷ h ∷ [])) (Run (word (ptr_val q) ∷ h ∷ []))) (sym is) (id⊢ 𝓤 (Run (word (ptr_val p) ∷ h ∷ []))) in
    let some_of : FileRegister → Option FileRegister = Some in let value_in : Option B.Denot → Option FileRegister = option_map (λ k. k.value) in
    holds_out ! d.at d.register
    (λ is ex. suffices ! (Run (word (ptr_val null_ptr) ∷ h ∷ [])) (at null_ptr is) $
    enter ! 𝓣.C 𝓣.Λ code.function (word (ptr_val null_ptr) ∷ h ∷ []) Post $ alloc_all ! (λ l. pass_all ! refl ((tt, (record { fits = lit< tt }, tt)), (fits, tt)) $
    sets ! (of_opd ! (get_in ! (fld ! refl (stop !)) (sub ! 0 refl (whole !)))) refl (tt, record { fits = lit< tt }) $ sets ! (of_opd ! (get ! refl)) refl (tt, record { fits = lit< tt }) $
    sets ! (bin ! (get ! refl) (lit ! tt) tt) refl (tt, tt) $ first ! $ branches ! (get ! refl)
    (λ _. sets ! (agg ! (and_then ! (lit ! tt) (no_more !))) refl (tt, (record { fits = lit< tt }, tt)) $ use0 𝓛 (‵ (Out.own_val None (live 0 vnil ∷ []))) (none_of 𝓛 B) $
    use0 𝓛 (raw (fact 𝓤 (value_in None ≡ d.register))) (fact_i 𝓤 (value_in None ≡ d.register) (emp 𝓤) (sym ex)) $ nothing ! $ nothing ! $ fjoin ! $ nothing ! $ fjoin ! $
    returns_within ! Post refl (look_at ! 0 refl) $ free_all ! refl $ keep ! (5 ∷ 0 ∷ 2 ∷ 1 ∷ []) $ by ! (leaves 𝓛 f.ended hs c z (live 0 vnil) None (tt, (tt, tt)) (tt, (tt, tt))))
    (λ wrong. absurd wrong)))
    (λ b o x is ex t. suffices ! (Run (word (vptr b o) ∷ h ∷ [])) (at (block_ptr b o) is) $
    enter ! 𝓣.C 𝓣.Λ code.function (word (vptr b o) ∷ h ∷ []) Post $ alloc_all ! (λ l. pass_all ! refl ((tt, (tt, tt)), (fits, tt)) $ let Ev = env (code.function).locals l in
    sets ! (of_opd ! (get_in ! (fld ! refl (stop !)) (sub ! 0 refl (whole !)))) refl (tt, tt) $ sets ! (of_opd ! (get ! refl)) refl (tt, tt) $
    sets ! (bin ! (get ! refl) (lit ! tt) (tests_null (block_ptr b o) t)) refl (tt, tt) $ first ! $ branches ! (get ! refl) (λ wrong. absurd wrong) (λ _.
    skips ! $ exec ! 𝓣.C 𝓣.Λ Ev (after 4 (code.function).body) (at_ret Ev Post) $ first ! $ blocks ! $
    sets ! (of_opd ! (get ! refl)) refl fits $ sets ! (of_opd ! (get ! refl)) refl (tt, tt) $
    let k = triple_of 𝓛 (callee.signature RA ZA ghosts dict dd) (callee.spec RA ZA ghosts dict dd 𝓛 𝓜.mem 𝓡.returns) in
    lft_new ! tt (λ α. lft_new ! tt (λ β. let y : k.Ghost = (((α ∷ [], (β ∷ [], tt)), (full_share, (full_share, tt)), tt, (a, (block_ptr b o, tt)), (h ∷ [], (vptr b o ∷ [], tt))), x) in
    move ! (2 ∷ []) $ use0 𝓛 (raw (fact 𝓤 (β ∷ [] ⊑ Z.lives))) (fact_i 𝓤 (β ∷ [] ⊑ Z.lives) (emp 𝓤) (⊑_static (β ∷ []))) $ join ! $ use0 𝓛 (raw (fact 𝓤 (α ∷ [] ⊑ R.lives))) (fact_i 𝓤 (α ∷ [] ⊑ R.lives) (emp 𝓤) (⊑_static (α ∷ []))) $ join ! $
    -- [the requires; the token of β; that of α; the heap; nothing, three times]
    move ! (3 ∷ 4 ∷ []) $ move ! (1 ∷ []) $ feq_i ! (List Val) (vptr b o ∷ []) (vptr b o ∷ []) refl $ fjoin ! $ move ! (1 ∷ 0 ∷ []) $ fjoin ! $
    move ! (2 ∷ 3 ∷ []) $ nothing ! $ move ! (1 ∷ 0 ∷ []) $ join ! $ move ! (1 ∷ 0 ∷ []) $ join ! $ join ! $ join ! $ use1 𝓛 (raw (k.pre y)) (id⊢ 𝓤 _) $
    calls_at_last ! (framed 𝓤 H 𝓜 𝓣) k (met 𝓤 𝓛 𝓜 𝓡 (code.calls-std_alloc::boxed::Box::from_raw 𝓡.env wired) RA ZA LR LZ ghosts dict dd
    (passed 𝓡.env (code.calls-std_heap::GlobalAllocator::allocate 𝓡.env wired) (code.calls-std_heap::GlobalAllocator::deallocate 𝓡.env wired) (code.calls-std_heap::GlobalAllocator::grow 𝓡.env wired) (code.calls-std_heap::GlobalAllocator::shrink 𝓡.env wired) _ 𝓤 𝓛 𝓜 𝓡)
    (glues "settle_c::Destruct++none::drop" 𝓡.env (code.calls-settle_c::Destruct++none::drop 𝓡.env wired) ZA LZ _ 𝓤 𝓛 𝓜 𝓡)) y (and_then ! (get ! refl) (and_then ! (get ! refl) (no_more !))) (λ u.
    use1 𝓛 (later (some (λ (r : B.Denot). ((‵ (flft (α ∷ []) full_share) ⊛ ‵ (flft (β ∷ []) full_share) ⊛ ‵ ftrue) ⊛ ‵ (B.own_val r (u ∷ []))) ⊛ some (λ (ls : Lasts (callee.ended RA ZA ghosts dict dd) y.0.0 y.0.3). ‵ (lasts (callee.ended RA ZA ghosts dict dd) y.0.0 y.0.3 ls) ⊛ (raw (fact 𝓤 (r.value ≡ x)) ⊛ raw (fact 𝓤 (r.alloc ≡ a))))))) (id⊢ 𝓤 (k.post y u)) $
    await ! tt $ pick ! (λ r. split ! $ split ! $ drop ! $ move ! (1 ∷ []) $ pick ! (λ ls. split3 ! $ drop ! $ heard ! (r.value ≡ x) (λ ev. drop ! $
    box_out E ! r (u ∷ []) (λ b' o' h' e' us fits'. box_in E ! r b' o' r.value e' refl $ rewrite ! 0 (λ (xs : List Val). ‵ (B.own_val r xs)) (sym us) refl $
    let good : T (has_ty (layout B) u) × WT u = subst (λ (w : Val). T (has_ty (layout B) w) × WT w) (sym (ap only us)) (box.box_typed E h' b' o' fits') in
    lands_last ! refl good $ exec ! 𝓣.C 𝓣.Λ Ev (after 5 (code.function).body) (at_ret Ev Post) $ sets ! (of_opd ! (get ! refl)) refl good $
    sets ! (agg ! (and_then ! (lit ! tt) (and_then ! (get ! refl) (no_more !)))) refl (and_tt _ good.0, (record { fits = lit< tt }, (good.1, tt))) $
    use1 𝓛 (‵ (Out.own_val (Some r) (live 1 (vcons u vnil) ∷ []))) (Some-of 𝓛 B r u) $
    use0 𝓛 (raw (fact 𝓤 (value_in (Some r) ≡ d.register))) (fact_i 𝓤 (value_in (Some r) ≡ d.register) (emp 𝓤) (ap some_of ev ∙ sym ex)) $ nothing ! $ nothing ! $ fjoin ! $ nothing ! $ fjoin ! $
    returns ! (look_at ! 0 refl) $ free_all ! refl $ keep ! (3 ∷ 0 ∷ 2 ∷ 1 ∷ []) $ by ! (leaves 𝓛 f.ended hs c z (live 1 (vcons u vnil)) (Some r) (tt, (tt, tt)) (tt, (tt, tt))))))))))))))))
