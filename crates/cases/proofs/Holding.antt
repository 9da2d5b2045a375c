-- The worked cases hold, by playing their calls.
use Rattle.std.proofs.Common.{◌≡◌, ℕ, true, List, [], ◌∷◌, map, Some, None, Option, leb, refl, arith}
use Rattle.std.specs.List.{AllByRecursion}
use Rattle.std.proofs.lemmas.Bool.{leb-true}
use Rattle.chain.specs.Pairing.{pairing_fault}
use Rattle.chain.specs.Potentials.{potentials_fault}
use Rattle.transitions.specs.Pairing as transitions
use Rattle.files.specs.Refusals.{refusal_of}
use Rattle.history.specs.Rules.{fresh}
use Rattle.history.proofs.Alone.{by_calls_alone}
use Rattle.cases.specs.Charts.{Chart, meaning}
use Rattle.cases.specs.Cases.{Line, line_of, Case, register, file, top, no_top, Played, Holds, EveryCaseHolds, cases}
use Rattle.cases.proofs.Runs.{Ran, ran}
use Rattle.cases.proofs.Reading.{four_read, three_read, widest_read}

module _ (c : Chart) (K : ℕ) where
  abbrev Runs : Type 0
  Runs = Ran (meaning c) K (fresh (meaning c) K)

  abbrev told : Option Runs → Option (List Line)
  told None = None
  told (Some r) = Some (map (line_of (meaning c)) r.0)

  -- what playing the calls comes to
  abbrev playing : List Line → Option Runs
  playing lines = ran (meaning c) K (fresh (meaning c) K) (map (λ l. l.call) lines)

  are_played : (lines : List Line) (r : Option Runs) → leb 1 K ≡ true → leb K 1000000000 ≡ true → told r ≡ Some lines → Played (meaning c) K lines
  are_played lines None low high e = absurd (cc)
  are_played lines (Some r) low high e = record {
    in_range = (leb-true _ _ low, leb-true _ _ high);
    pages = r.0;
    end = r.1;
    run = r.2;
    told = cc;
    alone = λ g τ run same. by_calls_alone (meaning c) K r.2 run same;
  }

-- what tests show of a case
abbrev Tested : Case → Type 0
Tested (register c K lines) = (leb 1 K ≡ true) × (leb K 1000000000 ≡ true) × (told c K (playing c K lines) ≡ Some lines)
Tested (file bytes outcome) = Holds (file bytes outcome)
Tested (top K) = (leb 1 K ≡ true) × (leb K 1000000000 ≡ true)
Tested (no_top K numbers) = Holds (no_top K numbers)

holds : (c : Case) → Tested c → Holds c
holds (register c K lines) (low, high, e) = are_played c K lines (playing c K lines) low high e
holds (file bytes outcome) t = t
holds (top K) (low, high) = (leb-true _ _ low, leb-true _ _ high)
holds (no_top K numbers) t = t

all : (cs : List Case) → AllByRecursion Tested cs → EveryCaseHolds cs
all [] t = tt
all (c ∷ cs) t = (holds c t.0, all cs t.1)

infixr 1 ◌next◌
abbrev ◌next◌ : {A B : Type 0} → A → B → A × B
a next b = (a, b)

pub each : EveryCaseHolds cases
unfolding cases ran pairing_fault potentials_fault transitions.pairing_fault refusal_of
each = all cases (
    (refl, refl, refl) next
    (refl, refl, refl) next
    (refl, refl, refl) next
    (refl, refl, refl) next
    (refl, refl, refl) next
    (refl, refl, refl) next
    (refl, refl, refl) next
    (refl, refl, refl) next
    (refl, refl, refl) next
    (refl, refl, refl) next
    (refl, refl, refl) next
    (refl, refl, refl) next
    (refl, refl, refl) next
    (refl, refl, refl) next
    four_read next
    three_read next
    widest_read next
    (_, refl, refl) next
    (_, refl, refl) next
    (refl, refl) next
    ((λ range. absurd (omega (arith, range.1))), refl) next
    tt)
