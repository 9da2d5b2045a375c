-- Pairings made from choices: a partner for each successor of the one section, and for each of the other.
use Rattle.std.proofs.Common.{◌≡◌, ℕ, zero, suc, ◌+◌, ◌*◌, ◌%◌, ◌<◌, ◌≤◌, Bool, true, cond, List, [], ◌∷◌, length, ℤ, pos, sym, refl, ap, subst, ◌∙◌, ⊎_elim, arith}
use borrow.Author.Differences.{up}
use Rattle.std.proofs.lemmas.Bool.{cases_eq, cond_both}
use Rattle.chart.specs.Bands.{Judges}
use Rattle.chart.specs.Words.{word}
use Rattle.transitions.specs.System.{System, Sound, successor}
use Rattle.transitions.specs.Words.{names}
use Rattle.transitions.specs.Pairing.{left, right, pairs, Pairing}
use Rattle.transitions.proofs.Words.{successor_in}

-- R holds of the words of each pair
abbrev Each : (ℤ → ℤ → Type 0) → List ℤ → Type 0
Each R ws = (j : ℕ) → j < pairs ws → R (word ws (2 * j)) (word ws (2 * j + 1))

-- x, y is a pair
abbrev Has : ℕ → ℕ → List ℤ → Type 0
Has x y ws = (j : ℕ) × (j < pairs ws) × (left ws j ≡ x) × (right ws j ≡ y)

-- one pair more, in front
module _ (x y : ℕ) (ws : List ℤ) where
  abbrev more : List ℤ
  more = pos x ∷ pos y ∷ ws

  more_left : (j : ℕ) → word more (2 * suc j) ≡ word ws (2 * j)
  more_left j = let at : 2 * suc j ≡ suc (suc (2 * j)) = omega arith in rw at refl

  more_right : (j : ℕ) → word more (2 * suc j + 1) ≡ word ws (2 * j + 1)
  more_right j = let at : 2 * suc j + 1 ≡ suc (suc (2 * j + 1)) = omega arith in rw at refl

  more_each : (R : ℤ → ℤ → Type 0) → R (pos x) (pos y) → Each R ws → Each R more
  more_each R first rest zero l = first
  more_each R first rest (suc j) l = rw (more_left j, more_right j) (rest j (omega arith))

  more_has : Has x y more
  more_has = (0, omega arith, refl, refl)

  more_keeps : (a b : ℕ) → Has a b ws → Has a b more
  more_keeps a b (j, l, e, f) = (suc j, omega arith, rw (more_left j) e, rw (more_right j) f)

-- in front of ws the pairs x u, y u, for each u below k that passes
module _ (p : ℕ → Bool) (x y : ℕ → ℕ) (ws : List ℤ) where
  abbrev chosen : ℕ → List ℤ
  chosen zero = ws
  chosen (suc k) = cond (p k) (pos (x k) ∷ pos (y k) ∷ chosen k) (chosen k)

  chosen_even : (k : ℕ) → length ws % 2 ≡ 0 → length (chosen k) % 2 ≡ 0
  chosen_even zero e = e
  chosen_even (suc k) e = cond_both (p k) _ (chosen k) (λ l. length l % 2 ≡ 0) (λ _. omega (arith, chosen_even k e)) (λ _. chosen_even k e)

  chosen_few : (k : ℕ) → length (chosen k) ≤ 2 * k + length ws
  chosen_few zero = omega arith
  chosen_few (suc k) = cond_both (p k) _ (chosen k) (λ l. length l ≤ 2 * suc k + length ws) (λ _. omega (arith, chosen_few k)) (λ _. omega (arith, chosen_few k))

  chosen_each : (R : ℤ → ℤ → Type 0) → ((u : ℕ) → p u ≡ true → R (pos (x u)) (pos (y u))) → Each R ws → (k : ℕ) → Each R (chosen k)
  chosen_each R h rest zero = rest
  chosen_each R h rest (suc k) = cond_both (p k) _ (chosen k) (Each R) (λ e. more_each (x k) (y k) (chosen k) R (h k e) (chosen_each R h rest k)) (λ _. chosen_each R h rest k)

  chosen_keeps : (a b : ℕ) → Has a b ws → (k : ℕ) → Has a b (chosen k)
  chosen_keeps a b h zero = h
  chosen_keeps a b h (suc k) = cond_both (p k) _ (chosen k) (Has a b) (λ _. more_keeps (x k) (y k) (chosen k) a b (chosen_keeps a b h k)) (λ _. chosen_keeps a b h k)

  chosen_has : (u : ℕ) → p u ≡ true → (k : ℕ) → u < k → Has (x u) (y u) (chosen k)
  chosen_has u e zero l = absurd (omega arith)
  chosen_has u e (suc k) l =
      ⊎_elim
      (λ same. let here : p k ≡ true = sym (ap p same) ∙ e in rw here (subst (λ z. Has (x z) (y z) (pos (x k) ∷ pos (y k) ∷ chosen k)) (sym same) (more_has (x k) (y k) (chosen k))))
      (λ d. cond_both (p k) _ (chosen k) (Has (x u) (y u)) (λ _. more_keeps (x k) (y k) (chosen k) (x u) (y u) (chosen_has u e k (omega arith))) (λ _. chosen_has u e k (omega arith)))
      (cases_eq u k)

-- g chooses a successor of t for each of s, and h one of s for each of t
module _ (c : System) (sound : Sound c) (s t : ℕ) (judged : Judges c.n c.band s t) (g h : ℕ → ℕ)
    (first : (u : ℕ) → successor c s u ≡ true → successor c t (g u) ≡ true) (second : (v : ℕ) → successor c t v ≡ true → successor c s (h v) ≡ true) where
  abbrev seconds : List ℤ
  seconds = chosen (successor c t) h (λ v. v) [] c.n

  abbrev pub choices : List ℤ
  choices = chosen (successor c s) (λ u. u) g seconds c.n

  -- what holds of each chosen pair holds of each pair
  each_choice : (R : ℤ → ℤ → Type 0) → ((u : ℕ) → successor c s u ≡ true → R (pos u) (pos (g u))) → ((v : ℕ) → successor c t v ≡ true → R (pos (h v)) (pos v)) → Each R choices
  each_choice R f k =
      chosen_each (successor c s) (λ u. u) g seconds R f (chosen_each (successor c t) h (λ v. v) [] R k (λ j l. absurd (omega arith)) c.n) c.n

  pub choice_is : (Q : ℕ → ℕ → Type 0) → ((u : ℕ) → successor c s u ≡ true → Q u (g u)) → ((v : ℕ) → successor c t v ≡ true → Q (h v) v)
      → (j : ℕ) → j < pairs choices → Q (left choices j) (right choices j)
  choice_is Q = each_choice (λ z w. Q (up z) (up w))

  pub choices_pair : Pairing c s t choices
  choices_pair =
      let name = each_choice (λ z w. (names c s z ≡ true) × (names c t w ≡ true)) (λ u e. (e, first u e)) (λ v e. (second v e, e)) in
      record {
        judged = judged;
        twos = chosen_even (successor c s) (λ u. u) g seconds c.n (chosen_even (successor c t) h (λ v. v) [] c.n refl);
        few = omega (arith, chosen_few (successor c s) (λ u. u) g seconds c.n, chosen_few (successor c t) h (λ v. v) [] c.n, sound.n_most);
        left_names = λ j l. (name j l).0;
        right_names = λ j l. (name j l).1;
        left_each = λ u e. let (j, l, is, _) = chosen_has (successor c s) (λ u. u) g seconds u e c.n (successor_in c s u e) in (j, l, is);
        right_each = λ v e.
            let (j, l, _, is) = chosen_keeps (successor c s) (λ u. u) g seconds (h v) v (chosen_has (successor c t) h (λ v. v) [] v e c.n (successor_in c t v e)) c.n in
            (j, l, is);
      }
