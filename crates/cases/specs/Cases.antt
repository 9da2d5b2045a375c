-- The worked cases: calls on fresh registers, each with what it comes to by the rules; what some files are read as; and which numbers are tops.
use Rattle.std.specs.Prelude.{◌≡◌, ℕ, List, [], ◌∷◌, map, ℤ, pos, neg_ℤ, Ok, Err, Result}
use Rattle.std.specs.List.{AllByRecursion}
use Rattle.chart.specs.declared.side.Side.TheVariants.{Upper, Lower}
use Rattle.chart.specs.declared.top.TopRefusal.TheVariants.{OutOfRange}
use Rattle.chart.specs.Meaning.{Meaning}
use Rattle.chart.specs.Tops.{InRange, refusal_numbers}
use Rattle.history.specs.declared.refusal.Refusal.{Refusal}
use Rattle.history.specs.declared.verdict.Verdict.TheVariants as verdict
use Rattle.history.specs.Refusals.{number, carried}
use Rattle.history.specs.Calls.{Call, Open, Claim, Close, Show, Ask, Answer, count, entries, Page}
use Rattle.history.specs.Rules.{State, Run, fresh}
use Rattle.history.specs.Promises.{ByCallsAlone}
use Rattle.cases.specs.Charts.{Chart, weighted, choice, sittings, meaning, four, three, widest}
use Rattle.cases.specs.Files.{ReadAs, file_of_four, file_of_three, file_of_widest, file_of_33, file_of_no_discount}

-- what a call comes to, in numbers: its answer, or the refusal's number and all that it carries
abbrev pub Outcome : Type 0
Outcome = Result Answer (List ℕ)

abbrev pub in_numbers : {F : Type 0} → (F → List ℕ) → Result Answer (Refusal F) → Outcome
in_numbers fault (Ok answer) = Ok answer
in_numbers fault (Err refusal) = Err (number refusal ∷ carried fault refusal)

pub record Line : Type 0 where
  pub call : Call
  pub outcome : Outcome

infix 70 ◌answers◌
abbrev pub ◌answers◌ : Call → Answer → Line
call answers answer = record { call = call; outcome = Ok answer }

infix 70 ◌refused◌
abbrev pub ◌refused◌ : Call → List ℕ → Line
call refused numbers = record { call = call; outcome = Err numbers }

pub data Case : Type 0 where
  register : Chart → ℕ → List Line → Case  -- calls on a fresh register over a chart and a top, in order
  file : List ℕ → Result Chart (List ℕ) → Case  -- the bytes of a chart file, and what they are read as
  top : ℕ → Case  -- a number that is a top
  no_top : ℕ → List ℕ → Case  -- one that is not, and its refusal

abbrev pub line_of : {F : Type 0} → Meaning F → Page F → Line
line_of m page = record { call = page.call; outcome = in_numbers m.numbers page.outcome }

-- On a fresh register the calls can be made one after the other by the rules, and they come to just this.
pub record Played {F : Type 0} (m : Meaning F) (K : ℕ) (lines : List Line) : Type 0 where
  pub in_range : InRange K
  pub pages : List (Page F)
  pub end : State
  pub run : Run m K (fresh m K) pages end
  pub told : map (line_of m) pages ≡ lines
  pub alone : ByCallsAlone m K end pages

abbrev pub Holds : Case → Type 0
Holds (register chart K lines) = Played (meaning chart) K lines
Holds (file bytes outcome) = ReadAs bytes outcome
Holds (top K) = InRange K
Holds (no_top K numbers) = (InRange K → ⊥) × (refusal_numbers OutOfRange ≡ numbers)

-- each case of the list holds
abbrev pub EveryCaseHolds : List Case → Type 0
EveryCaseHolds list = AllByRecursion Holds list

abbrev pub words : List ℕ → List ℤ
words numbers = map pos numbers

abbrev pub negative : ℕ → ℤ
negative n = neg_ℤ (pos n)

unfoldable pub cases : List Case
cases =
    -- before any claim
    register (weighted four) 30 (
    Ask 0 3 answers entries 0 30 verdict.Open
    ∷ Ask 0 1 answers entries 30 30 verdict.Apart
    ∷ [])
    -- an upper claim of 6 for (0, 3), shown by a pairing
    ∷ register (weighted four) 30 (
    Open Upper answers count 0
    ∷ Claim 0 3 6 answers count 1
    ∷ Close answers count 1
    ∷ Show 0 3 (words (0 ∷ 3 ∷ 3 ∷ 1 ∷ 3 ∷ 1 ∷ [])) answers count 0
    ∷ [])
    -- of 5, which it does not show
    ∷ register (weighted four) 30 (
    Open Upper answers count 0
    ∷ Claim 0 3 5 answers count 1
    ∷ Close answers count 1
    ∷ Show 0 3 (words (0 ∷ 3 ∷ 3 ∷ 1 ∷ 3 ∷ 1 ∷ [])) refused (55 ∷ 6 ∷ [])
    ∷ [])
    -- an upper claim of 5 for (0, 2), with a pairing that has an amount at (1, 1)
    ∷ register (weighted four) 30 (
    Open Upper answers count 0
    ∷ Claim 0 2 5 answers count 1
    ∷ Close answers count 1
    ∷ Show 0 2 (words (0 ∷ 1 ∷ 1 ∷ 0 ∷ 2 ∷ 2 ∷ 1 ∷ 1 ∷ 1 ∷ [])) refused (55 ∷ 9 ∷ [])
    ∷ [])
    -- and there 0 is claimed too
    ∷ register (weighted four) 30 (
    Open Upper answers count 0
    ∷ Claim 0 2 5 answers count 1
    ∷ Claim 1 1 0 answers count 2
    ∷ Close answers count 2
    ∷ Show 0 2 (words (0 ∷ 1 ∷ 1 ∷ 0 ∷ 2 ∷ 2 ∷ 1 ∷ 1 ∷ 1 ∷ [])) answers count 1
    ∷ [])
    -- a lower claim of 6 for (0, 3), shown by potentials
    ∷ register (weighted four) 30 (
    Open Lower answers count 0
    ∷ Claim 0 3 6 answers count 1
    ∷ Close answers count 1
    ∷ Show 0 3 (words (6 ∷ 30 ∷ 0 ∷ 0 ∷ 0 ∷ 0 ∷ 0 ∷ 0 ∷ [])) answers count 0
    ∷ [])
    -- of 7, which they do not show
    ∷ register (weighted four) 30 (
    Open Lower answers count 0
    ∷ Claim 0 3 7 answers count 1
    ∷ Close answers count 1
    ∷ Show 0 3 (words (7 ∷ 30 ∷ 0 ∷ 0 ∷ 0 ∷ 0 ∷ 0 ∷ 0 ∷ [])) refused (55 ∷ 6 ∷ [])
    ∷ [])
    -- potentials that add up to 7 at (0, 3), where 6 is claimed
    ∷ register (weighted four) 30 (
    Open Lower answers count 0
    ∷ Claim 0 3 6 answers count 1
    ∷ Close answers count 1
    ∷ Show 0 3 (words (7 ∷ 30 ∷ 0 ∷ 0 ∷ 0 ∷ 0 ∷ 0 ∷ 0 ∷ [])) refused (54 ∷ 113 ∷ 3 ∷ [])
    ∷ [])
    -- a potential below 0
    ∷ register (weighted four) 30 (
    Open Lower answers count 0
    ∷ Claim 0 2 5 answers count 1
    ∷ Close answers count 1
    ∷ Show 0 2 (pos 5 ∷ negative 25 ∷ words (0 ∷ 0 ∷ 0 ∷ 25 ∷ 0 ∷ 0 ∷ [])) answers count 0
    ∷ [])
    -- amounts that do not add up to the parts of section 0
    ∷ register (weighted four) 30 (
    Open Upper answers count 0
    ∷ Claim 0 3 6 answers count 1
    ∷ Close answers count 1
    ∷ Show 0 3 (words (0 ∷ 3 ∷ 4 ∷ [])) refused (54 ∷ 104 ∷ 0 ∷ [])
    ∷ [])
    -- two sittings under one chart, with one pairing for each
    ∷ register (sittings (weighted four) (weighted four)) 30 (
    Open Upper answers count 0
    ∷ Claim 0 3 6 answers count 1
    ∷ Close answers count 1
    ∷ Show 0 3 (words (6 ∷ 0 ∷ 3 ∷ 3 ∷ 1 ∷ 3 ∷ 1 ∷ 0 ∷ 3 ∷ 3 ∷ 1 ∷ 3 ∷ 1 ∷ [])) answers count 0
    ∷ [])
    -- an upper claim over a choice chart, which the pairing does not show
    ∷ register (choice three) 8 (
    Open Upper answers count 0
    ∷ Claim 0 2 3 answers count 1
    ∷ Close answers count 1
    ∷ Show 0 2 (words (0 ∷ 2 ∷ 1 ∷ 2 ∷ [])) refused (55 ∷ 4 ∷ [])
    ∷ [])
    -- the most sections and the greatest top: the least claim that a pairing shows, and the one below it
    ∷ register (choice widest) 1000000000 (
    Open Upper answers count 0
    ∷ Claim 0 31 999000000 answers count 1
    ∷ Close answers count 1
    ∷ Show 0 31 (words (0 ∷ 0 ∷ [])) answers count 0
    ∷ [])
    ∷ register (choice widest) 1000000000 (
    Open Upper answers count 0
    ∷ Claim 0 31 998999999 answers count 1
    ∷ Close answers count 1
    ∷ Show 0 31 (words (0 ∷ 0 ∷ [])) refused (55 ∷ 999000000 ∷ [])
    ∷ [])
    -- what files are read as
    ∷ file file_of_four (Ok (weighted four))
    ∷ file file_of_three (Ok (choice three))
    ∷ file file_of_widest (Ok (choice widest))
    ∷ file file_of_33 (Err (3 ∷ 2 ∷ []))
    ∷ file file_of_no_discount (Err (4 ∷ 4 ∷ []))
    -- which numbers are tops
    ∷ top 1000000000
    ∷ no_top 1000000001 (11 ∷ [])
    ∷ []
