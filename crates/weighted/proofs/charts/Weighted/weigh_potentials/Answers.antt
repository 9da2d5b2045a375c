use Rattle.std.proofs.Common.{◌≡◌, ◌<◌, None, sym, refl, ◌∙◌, w64, SFits, to_z, of_z, rules}
use Rattle.std.proofs.lemmas.Int.{to_z-of_z}
use Rattle.chart.specs.Tables.{distances}
use Rattle.chain.specs.Potentials.{gain, potentials_fault}
use Rattle.chain.proofs.Exits.{faulty, potentials_unjudged, potentials_count, potentials_range, potentials_above, potentials_valid}
use Rattle.chain.proofs.Valid.{potentials_from}
use Rattle.weighted.specs.View.{chain}
use Rattle.weighted.proofs.Gains.{gain_few}
use Rattle.weighted.proofs.Narrow.{narrow}
use Rattle.weighted.specs.Soundness.{sound}
use Rattle.weighted.proofs.charts.Weighted.weigh_potentials.Goals as goal

pub returns-then-is_unjudged : goal.returns-then-is_unjudged
returns-then-is_unjudged c = faulty _ _ _ (potentials_unjudged _ _ _ _ _ (sym c.if-is_unjudged.ensures))

pub returns-then-words-self : goal.returns-then-words-self
returns-then-words-self c = faulty _ _ _ (potentials_count _ _ _ _ _ (sym c.if-is_unjudged.ensures) c.if-words-self.true)

pub returns-in-Some : goal.returns-in-Some
returns-in-Some c =
    faulty _ _ _ (potentials_range _ _ _ _ _ (sym c.if-is_unjudged.ensures) c.if-words-self.false _ (rw (← c.top.ensures) (sym c.in-Some.ensures)))

pub invariant_of-potentials : goal.invariant_of-potentials
invariant_of-potentials c =
    let first : c.args.s < c.args.self.now.n = search rules in
    let second : c.args.t < c.args.self.now.n = search rules in
    record {
      first_in = first;
      second_in = second;
      two_each = c.if-words-self.false;
      narrow = narrow c.args.words.now c.args.d.now.top.value c.args.d.now.top.most (rw (← c.top.ensures) (sym c.in_default.ensures));
    }

pub returns-in-Some-find_above : goal.returns-in-Some-find_above
returns-in-Some-find_above c =
    faulty _ _ _ (potentials_above _ _ _ _ _ (sym c.if-is_unjudged.ensures) c.if-words-self.false _ (rw (← c.top.ensures) (sym c.in_default.ensures)) (sym c.in-Some-find_above.ensures))

unfaulty : (c : goal.After-gain) → potentials_fault (chain c.args.self.now) (distances c.args.d.now) c.args.s c.args.t c.args.words.now ≡ None
unfaulty c =
    potentials_valid _ _ _ _ _ (sym c.if-is_unjudged.ensures) c.if-words-self.false (rw (← c.top.ensures) (sym c.in_default.ensures)) (sym c.in_default-find_above.ensures)

gain_is : (c : goal.After-gain) → to_z w64 (of_z w64 c.gain.result) ≡ gain (chain c.args.self.now) c.args.s c.args.t c.args.words.now
gain_is c = let f : SFits w64 c.gain.result = search rules in to_z-of_z w64 c.gain.result f ∙ c.gain.ensures

pub round_down-requires : goal.round_down-requires
round_down-requires c =
    let w = c.args.self.now in
    rw (gain_is c) (gain_few (chain w) (sound w) (distances c.args.d.now) c.args.s c.args.t c.args.words.now c.args.d.now.top.most (potentials_from _ _ _ _ _ (unfaulty c)))

pub returns : goal.returns
returns c = rw (c.round_down.ensures, gain_is c.before, unfaulty c.before) refl
