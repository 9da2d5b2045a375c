-- The argument by the greatest excess: where each entry of a table is shown by potentials, none is above a table that bounds them.
use Rattle.std.proofs.Common.{◌≡◌, ℕ, zero, suc, ◌+◌, ◌-◌, ◌*◌, ◌<◌, ◌≤◌, ◌⊎◌, List, ℤ, ap, inl, inr, mul-le-mul_right, arith}
use native.Mathlib.Decide.{dec_le, dec_lt}
use Rattle.chart.specs.declared.side.Side.TheVariants.{Lower}
use Rattle.chart.specs.Distances.{Distances}
use Rattle.chart.specs.Meaning.{Meaning, Judged, Shown}
use Rattle.chart.specs.Laws.{Lawful, Within}
use Rattle.chart.specs.Supported.{Supported}
use Rattle.history.specs.Bounding.{Bounding}
use Rattle.history.specs.Promises.{Below}

-- the greatest of the values at the numbers below n
peak : (n : ℕ) (f : ℕ → ℕ) → 1 ≤ n → (i : ℕ) × (i < n) × ((j : ℕ) → j < n → f j ≤ f i)
peak zero f h = absurd (omega arith)
peak (suc zero) f h = (0, omega arith, grind arith)
peak (suc (suc k)) f h =
    let (i, lt, most) = peak (suc k) f (omega arith) in
    elim (dec_le (f i) (f (suc k))) [
      | yes up ↦ (suc k, omega arith, λ j h. grind (arith, most j))
      | no up ↦ (i, omega arith, λ j h. grind (arith, most j))
    ]

peak_pair : (n : ℕ) (f : ℕ → ℕ → ℕ) → 1 ≤ n → (s t : ℕ) × (s < n) × (t < n) × ((x y : ℕ) → x < n → y < n → f x y ≤ f s t)
peak_pair n f h =
    let row : (s : ℕ) → (t : ℕ) × (t < n) × ((y : ℕ) → y < n → f s y ≤ f s t) = λ s. peak n (f s) h in
    let (s, s-lt, most) = peak n (λ s. f s (row s).0) h in
    (s, (row s).0, s-lt, (row s).1, λ x y hx hy. omega (arith, (row x).2 y hy, most x hx))

module _ {F : Type 0} (m : Meaning F) (lawful : Lawful m) where
  pub supported_bounding : (e : Distances) → Supported m e → Bounding m e
  supported_bounding e sup = record {
    top_least = sup.top_least;
    apart = sup.apart;
    holds = λ s t j low l potentials x k shown near.
        let (pairing, words, paired) = sup.judged s t j low in
        lawful.cross l e s t potentials pairing x (e.entry s t) k sup.top_least shown paired near;
  }

  -- an entry of l that is not above that of e, or that potentials show in l
  abbrev pub Backed : Distances → Distances → ℕ → ℕ → Type 0
  Backed l e s t = (l.entry s t * e.top ≤ e.entry s t * l.top) ⊎ (Judged m s t × (l.entry s t ≤ l.top) × ((ws : List ℤ) × Shown m Lower l s t ws (l.entry s t)))

  -- no pair has an excess above 0 that is exceeded nowhere
  none_over : (l e : Distances) (s t k : ℕ) → Bounding m e → Backed l e s t → 1 ≤ k → e.entry s t * l.top + k ≡ l.entry s t * e.top → Within m.sections l e k → ⊥
  none_over l e s t k bounding (inl under) some is most = omega arith
  none_over l e s t k bounding (inr (j, high, (ws, shown))) some is most =
      elim (dec_lt (e.entry s t) e.top) [
        | yes low ↦ omega (arith, bounding.holds s t j low l ws _ k shown most, ap (λ z. m.denominator * z) is, mul-le-mul_right k lawful.discounted)
        | no no-low ↦ let top : e.top ≤ e.entry s t = omega arith in omega (arith, mul-le-mul_right e.top high, mul-le-mul_right l.top top)
      ]

  pub below : (l e : Distances) → Bounding m e → ((s t : ℕ) → s < m.sections → t < m.sections → Backed l e s t) → Below m.sections l e
  below l e bounding backed x y hx hy =
      let excess : ℕ → ℕ → ℕ = λ i j. l.entry i j * e.top - e.entry i j * l.top in
      let (s, t, hs, ht, most) = peak_pair m.sections excess lawful.sections_least in
      elim (dec_lt 0 (excess s t)) [
        | yes some ↦ absurd (none_over l e s t (excess s t) bounding (backed s t hs ht) some (omega arith) (λ i j hi hj. omega (arith, most i j hi hj)))
        | no none ↦ omega (arith, most x y hx hy)
      ]
