-- The calls of a register, their outcomes, and the pages of a history.
use Rattle.std.specs.Prelude.{ℕ, List, ℤ, Result}
use Rattle.chart.specs.declared.side.Side.{Side}
use Rattle.history.specs.declared.verdict.Verdict.{Verdict}
use Rattle.history.specs.declared.refusal.Refusal.{Refusal}

pub data Call : Type 0 where
  Open : Side → Call  -- begin a draft of claims on a side
  Claim : ℕ → ℕ → ℕ → Call  -- of two sections: that this value bounds their distance on the draft's side
  Close : Call  -- the draft takes no more claims, and then showings
  Show : ℕ → ℕ → List ℤ → Call  -- of two sections: a showing of their claim
  Enter : Call  -- write the draft's claims into the table of its side
  Abandon : Call  -- forget the draft
  Ask : ℕ → ℕ → Call  -- of two sections: their entries

pub data Answer : Type 0 where
  count : ℕ → Answer  -- of the draft's claims; after a showing, of those that are not yet shown
  entries : ℕ → ℕ → Verdict → Answer  -- the lower entry and the upper one

-- a call, and its answer or refusal; a history is a list of pages
pub record Page (F : Type 0) : Type 0 where
  pub call : Call
  pub outcome : Result Answer (Refusal F)
