-- The machine value of a handle: its pointer. Assumes `Logic`.
use Rattle.std.proofs.Common.{◌≡◌, ℕ, List, [], ◌∷◌, ◌++◌, refl, subst, Option, Some, None}
use seplogic.Ra.Ura.{Ura}
use mir.Val.{Val, vstruct, vcons, vnil, of_list}
use mir.Syntax.{Ty}
use mir.Raw.{raw as bare}
use base.Logic.{SProp, ent, via, guard, guard_i, fst∗, snd∗, never}
use types.Logic.{Logic, sem}
use contract.Monad.{fact, fact_use}
use types.Kit.{Item, Goal, Seq, Step, step, ‵, given, learn, use1, ◌$◌, drop, fsplit, fjoin, fpick, fpack, feq_i, feq_l}
use denote.RattleType.{Valss}
use denote.Builtin.{RawPtr}
use denote.Memory.{lone}
use denote.RawPtr.{Ptr, block_ptr, null_ptr, ptr_val, in_a_block, Testable}
use Rattle.std.specs.Ptr.{points_to}
use Rattle.std.specs.Box.Ownership.{box_owns}
use denote.Steps.{nothing}
use denote.Struct.Struct.{within}
use denote.Struct.Owning.{shape}
use Rattle.file_registers.specs.declared.registers.FileRegister.{FileRegister}
use Rattle.file_registers.specs.contracts.registers.FileRegister as register
use Rattle.settle_c.specs.contracts.handle.Handle as handle
use Rattle.std.proofs.GlobalToken.{dealloc_token-Testable}
use Rattle.settle_c.specs.Held.{heap, frees, holds}

abbrev pub word : Val → Val
word v = vstruct (vcons v vnil)

-- a pointer that may be freed may be compared with null
module _ {M : Type 1} {𝓤 : Ura M} (𝓛 : Logic 𝓤) (p : Ptr) (x : FileRegister) where
  abbrev Boxed : SProp 𝓤
  Boxed = sem 𝓛 (box_owns frees register.the_row p x)

  abbrev τ : Ty
  τ = bare (lone (register.the_row).mir)

  testable : ent 𝓤 Boxed (fact 𝓤 (Testable p))
  testable = via 𝓤 (sem 𝓛 (frees τ p)) (snd∗ 𝓤 (sem 𝓛 (points_to register.the_row p x)) (sem 𝓛 (frees τ p))) (dealloc_token-Testable 𝓛 heap τ p)

  tested : ent 𝓤 Boxed (guard 𝓤 (Testable p) Boxed)
  tested = fact_use 𝓤 (Testable p) testable (guard_i 𝓤 (Testable p) Boxed)

module _ {M : Type 1} {𝓤 : Ura M} {𝓛 : Logic 𝓤} {K : Type 0} {Γ : List (Item 𝓤)} {G : Goal 𝓤 𝓛.H} where
  pub handle_out : K → (d : (handle.the_row).Denot) (vs : List Val) → (vs ≡ word (ptr_val d.at) ∷ [] → Seq K 𝓛 (‵ (holds register.the_row d.at d.register) ∷ Γ) G) → Seq K 𝓛 (‵ ((handle.the_row).own_val d vs) ∷ Γ) G
  handle_out t d vs k =
      fsplit t $ fpick t (λ vss. fsplit t $ feq_l t (λ ev. fsplit t $ feq_l t (λ ep. drop t $
      k (subst (λ (ps : List Val). vs ≡ vstruct (of_list (ps ++ [])) ∷ []) ep ev))))

  pub handle_in : K → (p : Ptr) (x : Option FileRegister) → Step K 𝓛 (‵ ((handle.the_row).own_val (record { at = p; register = x }) (word (ptr_val p) ∷ [])) ∷ Γ) G (‵ (holds register.the_row p x) ∷ Γ) G
  handle_in t p x = step (λ s. let v : Val = word (ptr_val p) in
      nothing t $ feq_i t (List Val) (ptr_val p ∷ []) (ptr_val p ∷ []) refl $ fjoin t $ feq_i t (List Val) (v ∷ []) (v ∷ []) refl $ fjoin t $
      fpack t (Valss (RawPtr ∷ [])) (within (shape handle.the_type) (p, tt) (v ∷ [])) (ptr_val p ∷ [], tt) $ fjoin t $ s)

  pub holds_out : K → (p : Ptr) (x : Option FileRegister) → (p ≡ null_ptr → x ≡ None → Seq K 𝓛 Γ G)
      → ((b o : ℕ) (y : FileRegister) → p ≡ block_ptr b o → x ≡ Some y → Testable (block_ptr b o) → Seq K 𝓛 (‵ (box_owns frees register.the_row (block_ptr b o) y) ∷ Γ) G) → Seq K 𝓛 (‵ (holds register.the_row p x) ∷ Γ) G
  holds_out t p None none one = feq_l t (λ e. none e refl)
  holds_out t p (Some y) none one =
      in_a_block t p (λ q. box_owns frees register.the_row q y) (fst∗ 𝓤 (never 𝓤) (sem 𝓛 (frees (bare (lone (register.the_row).mir)) null_ptr))) (λ b o e.
      use1 𝓛 (given (Testable (block_ptr b o)) (‵ (box_owns frees register.the_row (block_ptr b o) y))) (tested 𝓛 (block_ptr b o) y) $ learn t (λ te. one b o y e refl te))
