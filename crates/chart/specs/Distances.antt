-- A table of distances: the top K stands for the distance 1, and an entry d for the distance d / K.
use Rattle.std.specs.Prelude.{ℕ}

pub record Distances : Type 0 where
  pub top : ℕ
  pub entry : ℕ → ℕ → ℕ
