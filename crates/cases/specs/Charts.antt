-- The charts of the worked cases, and when two charts are the same.
use Rattle.std.specs.Prelude.{◌≡◌, ℕ, ◌<◌, [], ◌∷◌, ◌==◌, slice_index}
use Rattle.chart.specs.Meaning.{Meaning}
use Rattle.chain.specs.Chain.{Chain}
use Rattle.chain.specs.Meaning as weighted_charts
use Rattle.chain.specs.declared.fault.Fault as weighted_faults
use Rattle.transitions.specs.System.{System}
use Rattle.transitions.specs.Meaning as choice_charts
use Rattle.transitions.specs.declared.fault.Fault as choice_faults
use Rattle.joint.specs.declared.fault.Fault as joint_faults
use Rattle.joint.specs.Meaning.{together}
use Rattle.weighted.specs.Rows.{entry_at}
use Rattle.choice.specs.View.{marks}

pub data Chart : Type 0 where
  weighted : Chain → Chart
  choice : System → Chart
  sittings : Chart → Chart → Chart  -- of a test that is sat under the one and then under the other

-- the faults of its kind
abbrev pub FaultOf : Chart → Type 0
FaultOf (weighted c) = weighted_faults.Fault
FaultOf (choice c) = choice_faults.Fault
FaultOf (sittings c d) = joint_faults.Fault (FaultOf c) (FaultOf d)

abbrev pub meaning : (c : Chart) → Meaning (FaultOf c)
meaning (weighted c) = weighted_charts.means c
meaning (choice c) = choice_charts.means c
meaning (sittings c d) = together (meaning c) (meaning d)

-- rows of 4 parts; section 1 has a band of its own
abbrev pub four : Chain
four = record {
  n = 4;
  a = 1;
  b = 2;
  whole = 4;
  band = slice_index (0 ∷ 1 ∷ 0 ∷ 0 ∷ []);
  part = entry_at (
      (3 ∷ 1 ∷ 0 ∷ 0 ∷ [])
      ∷ (0 ∷ 4 ∷ 0 ∷ 0 ∷ [])
      ∷ (0 ∷ 2 ∷ 2 ∷ 0 ∷ [])
      ∷ (0 ∷ 0 ∷ 0 ∷ 4 ∷ [])
      ∷ []);
}

-- from 0 one goes on to 0 or 1, from 1 to 1 and from 2 to 2; section 1 has a band of its own
abbrev pub three : System
three = record {
  n = 3;
  a = 1;
  b = 2;
  band = slice_index (0 ∷ 1 ∷ 0 ∷ []);
  leads = λ s. marks (slice_index (3 ∷ 2 ∷ 4 ∷ []) s);
}

-- as many sections as a chart has, and the greatest discount; from each section one goes on to 0
abbrev pub widest : System
widest = record { n = 32; a = 999; b = 1000; band = λ s. 0; leads = λ s u. u == 0 }

-- Two are the same if they have the same numbers, and of their sections the same bands and routes.
pub record SameChain (c d : Chain) : Type 0 where
  pub n : c.n ≡ d.n
  pub a : c.a ≡ d.a
  pub b : c.b ≡ d.b
  pub whole : c.whole ≡ d.whole
  pub band : (s : ℕ) → s < c.n → c.band s ≡ d.band s
  pub part : (s u : ℕ) → s < c.n → u < c.n → c.part s u ≡ d.part s u

pub record SameSystem (c d : System) : Type 0 where
  pub n : c.n ≡ d.n
  pub a : c.a ≡ d.a
  pub b : c.b ≡ d.b
  pub band : (s : ℕ) → s < c.n → c.band s ≡ d.band s
  pub leads : (s u : ℕ) → s < c.n → u < c.n → c.leads s u ≡ d.leads s u
