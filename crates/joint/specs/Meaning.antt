-- What two sittings mean.
use Rattle.std.specs.Prelude.{ℕ, Bool, true, false, cond, ◌&&◌, ◌||◌, max, IsTrue, List, ℤ, Some, None, Ok, Err, Option, Result}
use Rattle.chart.specs.declared.side.Side.{Side}
use Rattle.chart.specs.declared.side.Side.TheVariants.{Upper, Lower}
use Rattle.chart.specs.Distances.{Distances}
use Rattle.chart.specs.Meaning.{Meaning}
use Rattle.chart.specs.Starting.{judged_pair}
use Rattle.chart.specs.Weighing.{fault_as}
use Rattle.joint.specs.declared.fault.Fault.{Fault}
use Rattle.joint.specs.declared.fault.Fault.TheVariants.{Unjudged, Split, NoSitting, First, Second}
use Rattle.joint.specs.Fitting.{fit, longest}
use Rattle.joint.specs.Splitting.{split, Addressed, to_first, to_second, to_neither, addressed}
use Rattle.joint.specs.Faults.{fault_numbers}

module _ {P Q : Type 0} where
  -- the larger claim, or else the fault of sitting 0 before that of sitting 1
  abbrev pub larger : Result ℕ P → Result ℕ Q → Result ℕ (Fault P Q)
  larger (Ok claim) (Ok other) = Ok (max claim other)
  larger (Ok claim) (Err fault) = Err (Second fault)
  larger (Err fault) answer = Err (First fault)

  -- what sitting 0 answers, a fault marked as its own
  abbrev pub weighed_alone : Meaning P → Side → Distances → ℕ → ℕ → List ℤ → Result ℕ (Fault P Q)
  weighed_alone m side d s t ws = cond (judged_pair m s t) (fault_as First (m.weigh side d s t ws)) (Err Unjudged)

  -- sitting 0 alone
  abbrev pub alone : Meaning P → (Q → List ℕ) → Meaning (Fault P Q)
  alone m second = record {
    sections = m.sections;
    numerator = m.numerator;
    denominator = m.denominator;
    longest = m.longest;
    apart = m.apart;
    valid = m.valid;
    shows = m.shows;
    weigh = weighed_alone m;
    numbers = fault_numbers m.numbers second;
  }

module _ {P Q : Type 0} (m : Meaning P) (o : Meaning Q) where
  -- a pair that both sittings judge
  abbrev pub judged : ℕ → ℕ → Bool
  judged s t = judged_pair m s t && judged_pair o s t

  -- a pairing that is split is valid in both sittings, and shows the claims that both show
  abbrev pub ValidInBoth : Distances → ℕ → ℕ → Option (List ℤ × List ℤ) → Type 0
  ValidInBoth d s t None = ⊥
  ValidInBoth d s t (Some words) = m.valid Upper d s t words.0 × o.valid Upper d s t words.1

  abbrev pub ShownByBoth : Distances → ℕ → ℕ → ℕ → Option (List ℤ × List ℤ) → Type 0
  ShownByBoth d s t claim None = ⊥
  ShownByBoth d s t claim (Some words) = m.shows Upper d s t words.0 claim × o.shows Upper d s t words.1 claim

  abbrev pub pairing : Distances → ℕ → ℕ → Option (List ℤ × List ℤ) → Result ℕ (Fault P Q)
  pairing d s t None = Err Split
  pairing d s t (Some words) = larger (m.weigh Upper d s t words.0) (o.weigh Upper d s t words.1)

  -- potentials are valid in the sitting that they go to, and show the claims that it shows
  abbrev pub ValidInOne : Distances → ℕ → ℕ → Addressed → Type 0
  ValidInOne d s t (to_first ws) = m.valid Lower d s t ws
  ValidInOne d s t (to_second ws) = o.valid Lower d s t ws
  ValidInOne d s t to_neither = ⊥

  abbrev pub ShownByOne : Distances → ℕ → ℕ → ℕ → Addressed → Type 0
  ShownByOne d s t claim (to_first ws) = m.shows Lower d s t ws claim
  ShownByOne d s t claim (to_second ws) = o.shows Lower d s t ws claim
  ShownByOne d s t claim to_neither = ⊥

  abbrev pub potentials : Distances → ℕ → ℕ → Addressed → Result ℕ (Fault P Q)
  potentials d s t (to_first ws) = fault_as First (m.weigh Lower d s t ws)
  potentials d s t (to_second ws) = fault_as Second (o.weigh Lower d s t ws)
  potentials d s t to_neither = Err NoSitting

  abbrev pub Valid : Side → Distances → ℕ → ℕ → List ℤ → Type 0
  Valid Upper d s t ws = IsTrue (judged s t) × ValidInBoth d s t (split ws)
  Valid Lower d s t ws = IsTrue (judged s t) × ValidInOne d s t (addressed ws)

  abbrev pub Shows : Side → Distances → ℕ → ℕ → List ℤ → ℕ → Type 0
  Shows Upper d s t ws claim = ShownByBoth d s t claim (split ws)
  Shows Lower d s t ws claim = ShownByOne d s t claim (addressed ws)

  abbrev pub weighed : Side → Distances → ℕ → ℕ → List ℤ → Result ℕ (Fault P Q)
  weighed Upper d s t ws = cond (judged s t) (pairing d s t (split ws)) (Err Unjudged)
  weighed Lower d s t ws = cond (judged s t) (potentials d s t (addressed ws)) (Err Unjudged)

  abbrev pub joined : Meaning (Fault P Q)
  joined = record {
    sections = m.sections;
    numerator = m.numerator;
    denominator = m.denominator;
    longest = longest m o;
    apart = λ s t. m.apart s t || o.apart s t;
    valid = Valid;
    shows = Shows;
    weigh = weighed;
    numbers = fault_numbers m.numbers o.numbers;
  }

  abbrev pub means : Bool → Meaning (Fault P Q)
  means true = joined
  means false = alone m o.numbers

  -- two that do not fit are never put together; the definition covers every value of the type, and they mean sitting 0 alone
  abbrev pub together : Meaning (Fault P Q)
  together = means (fit m o)
