-- The words of a line, one after the other.
use Rattle.std.proofs.Common.{◌≡◌, ℕ, ◌+◌, ◌≤◌, List, [], ◌∷◌, ◌++◌, length, ℤ, Some, None, Ok, Err, Option, Result, refl, sym, ap, append_assoc, append-nil, length-append, arith}
use Rattle.lines.specs.declared.malformed.Malformed.{Malformed}
use Rattle.lines.specs.declared.malformed.Malformed.TheVariants.{NotAWord}
use Rattle.lines.specs.Numerals.{word_of}
use Rattle.lines.specs.Reading.{◌then◌, words_from, words_kept}

-- the words that were read, and then those that are left to read
abbrev pub onto : List ℤ → Result (List ℤ) Malformed → Result (List ℤ) Malformed
onto ws r = r then λ vs. Ok (ws ++ vs)

onto_push : (ws : List ℤ) (w : ℤ) (r : Result (List ℤ) Malformed) → onto (ws ++ w ∷ []) r ≡ onto ws (r then λ vs. Ok (w ∷ vs))
onto_push ws w (Ok vs) = ap Ok (append_assoc ws (w ∷ []) vs)
onto_push ws w (Err x) = refl

module _ (ws : List ℤ) (k : ℕ) (fs : List (List ℕ)) where
  pub words_more : (f : List ℕ) (rest : List (List ℕ)) (w : ℤ) → fs ≡ f ∷ rest → word_of f ≡ Some w → onto (ws ++ w ∷ []) (words_from (k + 1) rest) ≡ onto ws (words_from k fs)
  unfolding words_from
  words_more f rest w e is = rw (e, is) (onto_push ws w (words_from (k + 1) rest))

  pub words_wrong : (f : List ℕ) (rest : List (List ℕ)) → fs ≡ f ∷ rest → word_of f ≡ None → onto ws (words_from k fs) ≡ Err (NotAWord k)
  unfolding words_from
  words_wrong f rest e is = rw (e, is) refl

  pub words_all : fs ≡ [] → onto ws (words_from k fs) ≡ Ok ws
  unfolding words_from
  words_all e = rw e (ap Ok (append-nil ws))

-- the words that were read are among those to be kept
pub kept : (ws : List ℤ) (k : ℕ) (fs : List (List ℕ)) → length ws ≤ k → length ws ≤ words_kept (onto ws (words_from k fs))
kept ws k [] le = rw (words_all ws k [] refl) (omega arith)
kept ws k (f ∷ fs) le = by (word_of f) refl (λ w. kept (ws ++ w ∷ []) (k + 1) fs (grind (arith, length-append))) where
  by : (o : Option ℤ) → word_of f ≡ o → ((w : ℤ) → length (ws ++ w ∷ []) ≤ words_kept (onto (ws ++ w ∷ []) (words_from (k + 1) fs))) → length ws ≤ words_kept (onto ws (words_from k (f ∷ fs)))
  by None is more = rw (words_wrong ws k (f ∷ fs) f fs refl is) le
  by (Some w) is more = rw (sym (words_more ws k (f ∷ fs) f fs w refl is)) (grind (arith, length-append, more w))
