-- What stands where something is put or laid; claims that fall short; the first claim that is not shown; and what cannot be.
use Rattle.std.proofs.Common.{◌≡◌, ℕ, zero, suc, ◌<◌, Bool, true, false, not, ◌&&◌, ◌⊎◌, is_some, Some, None, Ok, Err, Option, Result, refl, inl, inr, arith}
use Rattle.std.proofs.lemmas.Bool.{cases_Bool}
use Rattle.std.proofs.lemmas.Bool.Decides.{nat_tests}
use Rattle.chart.specs.declared.side.Side.{Side}
use Rattle.chart.specs.declared.side.Side.TheVariants.{Upper, Lower}
use Rattle.chart.specs.Weighing.{Weaker}
use Rattle.chart.specs.Meaning.{Meaning}
use Rattle.history.specs.declared.refusal.Refusal.TheVariants.{Unshown}
use Rattle.history.specs.Calls.{Enter}
use Rattle.history.specs.Rules
use Rattle.history.specs.Rules.{State, Draft, Marks, showing, put, laid, Short, Ground}

pub never : {A : Type 0} → ◌≡◌ {A = ℕ} 0 1 → A
never z = absurd (cc)

pub absurd_bool : {A : Type 0} {b : Bool} → b ≡ true → b ≡ false → A
absurd_bool p q = absurd (cc)

pub absurd_option : {A : Type 0} {o : Option ℕ} {v : ℕ} → o ≡ None → o ≡ Some v → A
absurd_option p q = absurd (cc)

pub at_put : {A : Type 0} (s t : ℕ) (x : A) (f : ℕ → ℕ → A) (i j : ℕ) → ((i ≡ s) × (j ≡ t) × (put s t x f i j ≡ x)) ⊎ (put s t x f i j ≡ f i j)
at_put s t x f i j = grind (arith, nat_tests)

pub cases_option : (o : Option ℕ) → (o ≡ None) ⊎ ((v : ℕ) × (o ≡ Some v))
cases_option None = inl refl
cases_option (Some v) = inr (v, refl)

pub cases_result : {F : Type 0} (r : Result ℕ F) → ((c : ℕ) × (r ≡ Ok c)) ⊎ ((f : F) × (r ≡ Err f))
cases_result (Ok c) = inl (c, refl)
cases_result (Err f) = inr (f, refl)

pub at_laid : (d : Draft) (f : ℕ → ℕ → ℕ) (s t : ℕ) → ((v : ℕ) × (d s t ≡ Some v) × (laid d f s t ≡ v)) ⊎ ((d s t ≡ None) × (laid d f s t ≡ f s t))
at_laid d f s t = elim (cases_option (d s t)) [ inl none ↦ inr (none, rw none) | inr (v, is) ↦ inl (v, is, rw is) ]

-- the first of the numbers below n with P, where each has P or Q
first_of : (n : ℕ) (P Q : ℕ → Type 0) → ((i : ℕ) → i < n → P i ⊎ Q i) → ((i : ℕ) × (i < n) × P i × ((j : ℕ) → j < i → Q j)) ⊎ ((j : ℕ) → j < n → Q j)
first_of zero P Q each = inr (λ j h. absurd (omega arith))
first_of (suc n) P Q each = elim (first_of n P Q (λ i h. each i (omega arith))) [
  | inl (i, h, p, before) ↦ inl (i, omega arith, p, before)
  | inr all ↦ elim (each n (omega arith)) [ inl p ↦ inl (n, omega arith, p, all) | inr q ↦ inr (λ j h. grind arith) ]
]

abbrev pub AllShown : Draft → Marks → Type 0
AllShown d b = (s t v : ℕ) → s < 32 → t < 32 → d s t ≡ Some v → b s t ≡ true

-- a first claim that is not shown, or none
pub cases_shown : {F : Type 0} (m : Meaning F) (K : ℕ) (σ : State) (e : Side) (d : Draft) (b : Marks) → σ.phase ≡ showing e d b → ((s t : ℕ) × Ground m K σ Enter (Unshown s t)) ⊎ AllShown d b
cases_shown m K σ e d b ph =
    let wants : ℕ → ℕ → Bool = λ s t. is_some (d s t) && not (b s t) in
    let First : ℕ → Type 0 = λ s. (t : ℕ) × (t < 32) × (wants s t ≡ true) × ((y : ℕ) → y < t → wants s y ≡ false) in
    elim (first_of 32 First (λ s. (t : ℕ) → t < 32 → wants s t ≡ false) (λ s hs. first_of 32 (λ t. wants s t ≡ true) (λ t. wants s t ≡ false) (λ t ht. cases_Bool (wants s t)))) [
      | inl (s, hs, (t, ht, is, row), rows) ↦ elim (cases_option (d s t)) [
        | inl none ↦ absurd (grind arith)
        | inr (v, has) ↦ inl (s, t, Rules.enter_61 e d b s t v ph hs ht has (grind arith) (λ x y w hx hy before has. grind (arith, row y, rows x)))
      ]
      | inr all ↦ inr (λ s t v hs ht is. grind (arith, all s hs t ht))
    ]

pub cases_short : (e : Side) (c v : ℕ) → Short e c v ⊎ (Short e c v → ⊥)
cases_short Upper c v = grind arith
cases_short Lower c v = grind arith

pub reaches : (e : Side) (c v : ℕ) → (Short e c v → ⊥) → Weaker e c v
reaches e c v h = grind arith
