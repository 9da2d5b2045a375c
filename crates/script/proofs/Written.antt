-- Lines that are written one after the other.
use Rattle.std.proofs.Common.{◌≡◌, ℕ, List, [], ◌∷◌, ◌++◌, codes, Some, None, Option, ap, sym, ◌∙◌, append_assoc, append-nil}
use Rattle.std.specs.Io.KnownBytes.{Appends}
use Rattle.script.specs.declared.report.items.Row.{Row}
use Rattle.script.specs.Lines.{row_text, rows_text}

pub appends_none : (o : Option (List ℕ)) → Appends o o []
appends_none None = tt
appends_none (Some xs) = sym (append-nil xs)

pub appends_more : (o n m : Option (List ℕ)) (a b : List ℕ) → Appends o n a → Appends n m b → Appends o m (a ++ b)
appends_more None n m a b p q = tt
appends_more (Some xs) None m a b p q = absurd p
appends_more (Some xs) (Some ys) None a b p q = absurd q
appends_more (Some xs) (Some ys) (Some zs) a b p q = q ∙ ap (λ l. l ++ b) p ∙ append_assoc xs a b

pub rows_push : (rs : List Row) (r : Row) → rows_text (rs ++ r ∷ []) ≡ rows_text rs ++ (row_text r ++ codes "\n")
rows_push [] r = append-nil (row_text r ++ codes "\n")
rows_push (q ∷ rs) r = ap (λ l. (row_text q ++ codes "\n") ++ l) (rows_push rs r) ∙ sym (append_assoc (row_text q ++ codes "\n") (rows_text rs) (row_text r ++ codes "\n"))
