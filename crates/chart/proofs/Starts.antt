-- The entries in which a register starts.
use Rattle.std.proofs.Common.{◌≡◌, ℕ, ◌≤◌, Bool, true, false, ◌&&◌, ltb, refl, arith}
use Rattle.std.proofs.lemmas.Bool.Decides.{nat_tests}
use Rattle.chart.specs.declared.side.Side.{Side}
use Rattle.chart.specs.declared.side.Side.TheVariants.{Upper, Lower}
use Rattle.chart.specs.Meaning.{Meaning}
use Rattle.chart.specs.Starting.{judged_pair, start_entry}

pub start_bounded : (side : Side) (judged : Bool) (top : ℕ) → start_entry side judged top ≤ top
start_bounded Upper judged top = omega arith
start_bounded Lower true top = omega arith
start_bounded Lower false top = omega arith

-- a pair with a section that there is no room for
pub start_outside : {F : Type 0} (m : Meaning F) → m.sections ≤ 32 → (side : Side) (top s t : ℕ) → (ltb s 32 && ltb t 32) ≡ false → top ≡ start_entry side (judged_pair m s t) top
start_outside m few Upper top s t e = refl
start_outside m few Lower top s t e = grind (arith, nat_tests)
