-- What comes of the lines of a script, played one after another, and what is written of them.
use Rattle.std.specs.Prelude.{◌≡◌, ℕ, suc, ◌+◌, ◌-◌, ◌^◌, ◌<◌, min, ◌⊎◌, ⊤, Bool, true, false, List, [], length, None, Some, Ok, Err, Option, IfSome, ℤ, Result}
use Rattle.std.specs.Fmt.{option_append}
use Rattle.std.specs.Io.BufRead.{first_piece, drop_through, DropsThrough}
use Rattle.std.specs.Io.KnownBytes.{IsAtEnd}
use Rattle.chart.specs.Meaning.{Meaning}
use Rattle.history.specs.Rules.{State}
use Rattle.commands.specs.declared.command.Command.{Command}
use Rattle.commands.specs.Reading.{line_read, line_words}
use Rattle.script.specs.declared.answer.Answer.{Answer}
use Rattle.lines.specs.declared.malformed.Malformed.{Malformed}
use Rattle.lines.specs.declared.malformed.Malformed.TheVariants.{Memory}
use Rattle.script.specs.declared.rejection.Rejection.{Rejection}
use Rattle.script.specs.declared.session.Stop.{Stop}
use Rattle.script.specs.declared.session.Stop.TheVariants.{Line as AtLine, Io}
use Rattle.script.specs.declared.report.items.Outcomes.{Outcomes}
use Rattle.script.specs.Lines.{outcome_line}
use Rattle.script.specs.Playing.{Plays}
use Rattle.script.specs.Report.{counted, is_accepted, is_refused}

-- the line that bytes begin with, up to a line feed, and the bytes after it
abbrev pub next_line : List ℕ → List ℕ
next_line bs = first_piece 10 bs

abbrev pub lines_after : List ℕ → List ℕ
lines_after bs = drop_through 10 bs

-- The next line of the bytes is read, and those after it are left; or there is none. The bytes are known, or nothing is said of them.
abbrev pub NextLine : Bool → Option (List ℕ) → List ℕ → Option (List ℕ) → Type 0
NextLine true known line left = IfSome known (λ bs. (0 < length bs) × (line ≡ next_line bs)) × DropsThrough known left 10
NextLine false known line left = IsAtEnd known

-- what is wrong with a line, or that memory is wanting for the words that it has
abbrev pub IsWrong : List ℕ → Malformed → Type 0
IsWrong line wrong = ((wrong ≡ Memory) × (0 < line_words (line_read line))) ⊎ (line_read line ≡ Err wrong)

-- a line of this number stops the script, and changes nothing
abbrev pub StopsAt : ℕ → List ℕ → Type 0 → Stop → Type 0
StopsAt number line Unchanged (AtLine k wrong) = (k ≡ number) × IsWrong line wrong × Unchanged
StopsAt number line Unchanged (Io e) = ⊤

-- no call yet
abbrev pub no_outcomes : Outcomes
no_outcomes = record { accepted = 0; refused = 0 }

-- the counts with what one more command comes to
abbrev pub with_outcome : {F : Type 0} → Outcomes → Result Answer (Rejection F) → Outcomes
with_outcome n r = record { accepted = counted (is_accepted r) n.accepted; refused = counted (is_refused r) n.refused }

-- The first argument tells what is written of a fault.
module _ {F : Type 0} (fault : F → Option (List ℕ)) (m : Meaning F) (K : ℕ) where
  -- A line, played in the state σ with the counts n, leaves the state τ and the counts p, and this is written: nothing for a line that is passed over, and a line for a command.
  pub data Line (line : List ℕ) (σ : State) (n : Outcomes) : Option (List ℕ) → State → Outcomes → Type 0 where
    passed : line_read line ≡ Ok None → Line line σ n (Some []) σ n
    played : {τ : State} (c : Command) (ws : List ℤ) (r : Result Answer (Rejection F)) → line_read line ≡ Ok (Some (c, ws)) → Plays m K σ c ws r τ
        → Line line σ n (outcome_line fault c r) τ (with_outcome n r)

  -- So many lines of these bytes are played, one after another; this is written in all, and the last bytes are left.
  pub data Script : List ℕ → State → Outcomes → ℕ → Option (List ℕ) → State → Outcomes → List ℕ → Type 0 where
    none : {bs : List ℕ} {σ : State} {n : Outcomes} → Script bs σ n 0 (Some []) σ n bs
    turn : {bs rest : List ℕ} {σ ρ τ : State} {n k p : Outcomes} {j : ℕ} (a b : Option (List ℕ))
        → Line (next_line bs) σ n a ρ k → Script (lines_after bs) ρ k j b τ p rest → Script bs σ n (suc j) (option_append a b) τ p rest

  -- The script is played to its end; or up to a line that is malformed, or whose words want memory; or reading or writing fails. W tells what is written.
  abbrev pub Ends : (List ℕ → Type 0) → List ℕ → State → Result Outcomes Stop → State → Type 0
  Ends W bs σ (Ok p) τ = (j : ℕ) × (text : Option (List ℕ)) × Script bs σ no_outcomes j text τ p [] × IfSome text W
  Ends W bs σ (Err (AtLine number wrong)) τ =
      (j : ℕ) × (text : Option (List ℕ)) × (p : Outcomes) × (rest : List ℕ) × Script bs σ no_outcomes j text τ p rest × IfSome text W
      × (number ≡ min (j + 1) (2 ^ 64 - 1)) × IsWrong (next_line rest) wrong
  Ends W bs σ (Err (Io e)) τ = ⊤
