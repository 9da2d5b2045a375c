-- How the refusal is written.
use Rattle.std.specs.Prelude.{ℕ, List, codes}

abbrev pub misfit_text : List ℕ
misfit_text = codes "12 (the two charts differ in their sections or discount, or their showings are too long together)"
