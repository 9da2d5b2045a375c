-- The laws that every kind of chart keeps.
use Rattle.std.specs.Prelude.{◌≡◌, ℕ, ◌+◌, ◌*◌, ◌<◌, ◌≤◌, false, List, [], ◌∷◌, length, ℤ, Err}
use Rattle.std.specs.List.{AllByRecursion}
use Rattle.chart.specs.declared.side.Side.{Side}
use Rattle.chart.specs.declared.side.Side.TheVariants.{Upper, Lower}
use Rattle.chart.specs.Distances.{Distances}
use Rattle.chart.specs.Weighing.{Weaker, Weighs}
use Rattle.chart.specs.Meaning.{Meaning, Judged, Shown, Word}

-- d and e have one top, and no entry of d asks less than that of e
pub record Tighter (side : Side) (n : ℕ) (d e : Distances) : Type 0 where
  pub tops : d.top ≡ e.top
  pub entries : (x y : ℕ) → x < n → y < n → Weaker side (d.entry x y) (e.entry x y)

-- cross-multiplied by the tops, no entry of l is above that of e by more than k
abbrev pub Within : ℕ → Distances → Distances → ℕ → Type 0
Within n l e k = (x y : ℕ) → x < n → y < n → l.entry x y * e.top ≤ e.entry x y * l.top + k

module _ {F : Type 0} (m : Meaning F) where
  pub record Lawful : Type 0 where
    pub sections_least : 1 ≤ m.sections
    pub sections_most : m.sections ≤ 32
    pub numerator_least : 1 ≤ m.numerator
    pub discounted : m.numerator < m.denominator
    pub denominator_most : m.denominator ≤ 1000
    pub longest_most : m.longest ≤ 2000000000
    -- a weighing answers the strongest claim of a valid showing, and a fault if it is not valid, and only then
    pub weighs : (side : Side) (d : Distances) (s t : ℕ) (ws : List ℤ) → Weighs side (m.valid side d s t ws) (m.shows side d s t ws) (m.weigh side d s t ws)
    -- before all others comes fault 100, place 0: the pair is apart or has a section that the chart has not
    pub unjudged : (side : Side) (d : Distances) (s t : ℕ) (ws : List ℤ) → (Judged m s t → ⊥) → (f : F) × (m.weigh side d s t ws ≡ Err f) × (m.numbers f ≡ 100 ∷ 0 ∷ [])
    -- a pairing is a run of signed 32-bit words
    pub words : (d : Distances) (s t : ℕ) (ws : List ℤ) → m.valid Upper d s t ws → AllByRecursion Word ws
    pub short : (side : Side) (d : Distances) (s t : ℕ) (ws : List ℤ) → m.valid side d s t ws → length ws ≤ m.longest
    -- no section is apart from itself, and a pairing of it with itself shows 0 in every table with zeros at all pairs (x, x)
    pub self_judged : (s : ℕ) → s < m.sections → m.apart s s ≡ false
    pub self_paired : (s : ℕ) → s < m.sections
        → (ws : List ℤ) × AllByRecursion Word ws × ((d : Distances) → ((x : ℕ) → x < m.sections → d.entry x x ≡ 0) → Shown m Upper d s s ws 0)
    -- with a claim, a pairing shows each greater one, and potentials show each smaller one
    pub closed : (side : Side) (d : Distances) (s t : ℕ) (ws : List ℤ) (c e : ℕ) → Shown m side d s t ws c → Weaker side c e → Shown m side d s t ws e
    -- a pairing shows what it shows in every table over the same top that is nowhere greater, potentials in every one that is nowhere smaller
    pub monotone : (side : Side) (d e : Distances) (s t : ℕ) (ws : List ℤ) (c : ℕ) → Tighter side m.sections e d → Shown m side d s t ws c → Shown m side e s t ws c
    -- potentials in one table are held below pairings in another, whatever the two tops
    pub cross : (l e : Distances) (s t : ℕ) (potentials pairing : List ℤ) (x y k : ℕ) → 1 ≤ e.top
        → Shown m Lower l s t potentials x → Shown m Upper e s t pairing y → Within m.sections l e k
        → m.denominator * (x * e.top) ≤ m.denominator * (y * l.top) + m.numerator * k
