-- The cells of a table, each made from its place alone.
use Rattle.std.proofs.Common.{◌≡◌, ℕ, ◌+◌, ◌*◌, ◌<◌, ◌≤◌, false, cond, ◌&&◌, ltb, List, get_or, ap, ◌∙◌, arith}
use mathlib.Core.Path.{fun_ext}
use Rattle.std.proofs.lemmas.Nat.{mul-add-lt}
use Rattle.std.proofs.lemmas.Bool.{cond_both}
use Rattle.std.proofs.lemmas.Bool.Decides.{nat_tests}
use Rattle.std.specs.Array.{IsFromFnResult}
use Rattle.std.specs.Fn.{Called, Mut}
use Rattle.finite.proofs.Lists.{made_at, made_everywhere}
use Rattle.chart.specs.Distances.{Distances}
use Rattle.chart.specs.Tables.{cell}

module _ {F : Type 0} {g : Mut F (ℕ × Unit {0}) ℕ} {f : F} {cells : List ℕ} (made : IsFromFnResult g f cells 1024) (h : ℕ → ℕ)
    (answers : (k y : ℕ) (q : F) → Called g f (k, tt) y q → (q ≡ f) × (y ≡ h k)) (top : ℕ) where
  pub made_bounded : ((k : ℕ) → h k ≤ top) → (i : ℕ) → get_or cells i 0 ≤ top
  made_bounded most = made_everywhere made (λ k y. y ≤ top) (λ k y q call. let a = answers k y q call in (a.0, omega (arith, a.1, most k))) 0 (λ k l. omega arith)

  -- the entries are e, within the room for sections and outside it
  pub made_table : (e : ℕ → ℕ → ℕ) → ((s t : ℕ) → s < 32 → t < 32 → h (s * 32 + t) ≡ e s t) → ((s t : ℕ) → (ltb s 32 && ltb t 32) ≡ false → top ≡ e s t)
      → ◌≡◌ {A = Distances} (record { top = top; entry = λ s t. cond (ltb s 32 && ltb t 32) (cell cells s t) top }) (record { top = top; entry = e })
  made_table e within outside =
      ap (λ (e : ℕ → ℕ → ℕ). let d : Distances = record { top = top; entry = e } in d)
      (fun_ext (λ s. fun_ext (λ t. cond_both (ltb s 32 && ltb t 32) (cell cells s t) top (λ x. x ≡ e s t)
      (λ b.
      let hs : s < 32 = grind (arith, nat_tests) in
      let ht : t < 32 = grind (arith, nat_tests) in
      made_at made (λ k y. y ≡ h k) answers (s * 32 + t) 0 (mul-add-lt s 32 t 32 hs ht) ∙ within s t hs ht)
      (outside s t))))
