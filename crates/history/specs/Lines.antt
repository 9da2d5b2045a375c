-- How refusals and verdicts are written.
use Rattle.std.specs.Prelude.{ℕ, List, [], ◌++◌, Some, codes, decimal, Option}
use Rattle.std.specs.Fmt.{◌++?◌}
use Rattle.std.specs.List.{flat_map}
use Rattle.chart.specs.declared.side.Side.{Side}
use Rattle.chart.specs.declared.side.Side.TheVariants.{Upper, Lower}
use Rattle.history.specs.declared.verdict.Verdict.{Verdict}
use Rattle.history.specs.declared.verdict.Verdict.TheVariants.{Apart, Settled, Open}
use Rattle.history.specs.declared.refusal.Refusal.{Refusal}
use Rattle.history.specs.declared.refusal.Refusal.TheVariants.{NotResting, NotClaiming, ClaimOutside, ClaimApart, ClaimedTwice, ClaimValue, CloseNotClaiming, NoClaims, NotShowing, ShowOutside, NoClaim, ShownAlready, Fault, Bound, EnterNotShowing, Unshown, Resting, AskOutside}
use Rattle.history.specs.Refusals.{number, carried}

-- words in parentheses, after a blank
abbrev pub reason : List ℕ → List ℕ
reason words = codes " (" ++ (words ++ codes ")")

-- what a showing's strongest claim says, in words that the claim ends
abbrev pub limit_text : Side → List ℕ
limit_text Upper = codes "the pairing shows no claim below"
limit_text Lower = codes "the potentials show no claim above"

-- what follows a refusal's number and what it carries: what is wrong, in words; the first argument tells what is written of a fault, with its own numbers
abbrev pub after_numbers : {F : Type 0} → (F → Option (List ℕ)) → Refusal F → Option (List ℕ)
after_numbers fault NotResting = Some (reason (codes "a draft is open"))
after_numbers fault NotClaiming = Some (reason (codes "no draft takes claims"))
after_numbers fault ClaimOutside = Some (reason (codes "the chart has not both sections"))
after_numbers fault ClaimApart = Some (reason (codes "the pair is apart"))
after_numbers fault ClaimedTwice = Some (reason (codes "the draft has a claim for the pair"))
after_numbers fault ClaimValue = Some (reason (codes "the value is looser than the entry, or above the top"))
after_numbers fault CloseNotClaiming = Some (reason (codes "no draft takes claims"))
after_numbers fault NoClaims = Some (reason (codes "the draft has no claims"))
after_numbers fault NotShowing = Some (reason (codes "no draft takes showings"))
after_numbers fault ShowOutside = Some (reason (codes "the chart has not both sections"))
after_numbers fault NoClaim = Some (reason (codes "the draft has no claim for the pair"))
after_numbers fault ShownAlready = Some (reason (codes "the claim is shown already"))
after_numbers fault (Fault f) = Some (codes " ") ++? fault f
after_numbers fault (Bound side c) = Some (reason (limit_text side ++ (codes " " ++ decimal c)))
after_numbers fault EnterNotShowing = Some (reason (codes "no draft takes showings"))
after_numbers fault (Unshown s t) = Some (codes " (the claim for sections " ++ (decimal s ++ (codes " and " ++ (decimal t ++ codes " is not shown)"))))
after_numbers fault Resting = Some (reason (codes "no draft is open"))
after_numbers fault AskOutside = Some (reason (codes "the chart has not both sections"))

-- each number after a blank
abbrev pub after_blanks : List ℕ → List ℕ
after_blanks ns = flat_map (λ n. codes " " ++ decimal n) ns

-- a refusal is written as its number, what it carries, and what is wrong
abbrev pub line : {F : Type 0} → (F → Option (List ℕ)) → Refusal F → Option (List ℕ)
line fault r = Some (decimal (number r)) ++? Some (after_blanks (carried (λ f. []) r)) ++? after_numbers fault r

abbrev pub verdict_text : Verdict → List ℕ
verdict_text Apart = codes "apart"
verdict_text Settled = codes "settled"
verdict_text Open = codes "open"
