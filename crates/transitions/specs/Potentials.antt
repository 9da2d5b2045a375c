-- Potentials: three words, a side, a section and a floor. They name a successor of one of the two sections,
-- and a floor under its distance from every successor of the other.
use Rattle.std.specs.Prelude.{◌≡◌, ℕ, ◌*◌, ◌/◌, ◌≤◌, true, cond, not, ◌&&◌, ◌⊎◌, List, [], ◌∷◌, length, ℤ, pos, Option, ◌==◌, nat_lt}
use borrow.Author.Differences.{up}
use Rattle.std.specs.Option.{option_map}
use Rattle.finite.specs.Search.{given, first_of, least}
use Rattle.chart.specs.Distances.{Distances}
use Rattle.chart.specs.Bands.{Judges, unjudged}
use Rattle.chart.specs.Words.{word, Between, outside}
use Rattle.transitions.specs.declared.fault.Fault.{Fault}
use Rattle.transitions.specs.declared.fault.Fault.TheVariants.{Unjudged, PotentialsCount, NoSide, NoSection, NoFloor, Below}
use Rattle.transitions.specs.System.{System, successor}
use Rattle.transitions.specs.Words.{names}

-- the words, where they are natural numbers
abbrev pub side : List ℤ → ℕ
side ws = up (word ws 0)

abbrev pub section : List ℤ → ℕ
section ws = up (word ws 1)

abbrev pub floor : List ℤ → ℕ
floor ws = up (word ws 2)

-- of the pair's two sections, on side 0 the first has the named successor, and on side 1 the second
abbrev pub own : ℕ → ℕ → ℕ → ℕ
own i s t = cond (i == 0) s t

abbrev pub other : ℕ → ℕ → ℕ → ℕ
other i s t = cond (i == 0) t s

-- the entry that pairs the section x of the side with a successor y of the other
abbrev pub facing : Distances → ℕ → ℕ → ℕ → ℕ
facing d i x y = cond (i == 0) (d.entry x y) (d.entry y x)

-- valid potentials
pub record Potentials (c : System) (d : Distances) (s t : ℕ) (ws : List ℤ) : Type 0 where
  pub judged : Judges c.n c.band s t
  pub count : length ws ≡ 3
  pub side_word : (word ws 0 ≡ pos 0) ⊎ (word ws 0 ≡ pos 1)
  pub section_word : names c (own (side ws) s t) (word ws 1) ≡ true
  pub floor_word : Between (pos 0) (pos d.top) (word ws 2)
  pub under : (y : ℕ) → successor c (other (side ws) s t) y ≡ true → floor ws ≤ facing d (side ws) (section ws) y

-- they show each claim that is at most the discounted floor, (a / b) × f
abbrev pub PotentialsShow : System → List ℤ → ℕ → Type 0
PotentialsShow c ws claim = c.b * claim ≤ c.a * floor ws

-- the greatest such claim: the discounted floor, rounded down
abbrev pub greatest_claim : System → ℕ → ℕ
greatest_claim c f = c.a * f / c.b

-- the first check that fails, if one does
unfoldable pub potentials_fault : System → Distances → ℕ → ℕ → List ℤ → Option Fault
potentials_fault c d s t ws = first_of (
    given (unjudged c.n c.band s t) Unjudged
    ∷ given (not (length ws == 3)) (PotentialsCount (length ws))
    ∷ given (outside (pos 0) (pos 1) (word ws 0)) NoSide
    ∷ given (not (names c (own (side ws) s t) (word ws 1))) NoSection
    ∷ given (outside (pos 0) (pos d.top) (word ws 2)) NoFloor
    ∷ option_map Below (least c.n (λ y. successor c (other (side ws) s t) y && nat_lt (facing d (side ws) (section ws) y) (floor ws)))
    ∷ [])
