-- The chart files of the worked cases, byte by byte, and what a chart file is read as.
use Rattle.std.specs.Prelude.{◌≡◌, ℕ, ◌/◌, ◌%◌, List, [], ◌∷◌, ◌++◌, replicate, Some, None, Ok, Err, Option, Result}
use Rattle.std.specs.List.{flat_map}
use Rattle.files.specs.declared.kind.Kind.{Kind}
use Rattle.files.specs.declared.kind.Kind.TheVariants as kind
use Rattle.files.specs.declared.refusal.ReadRefusal.{ReadRefusal}
use Rattle.files.specs.Refusals.{number, place}
use Rattle.weighted.specs.Reading as weighted_files
use Rattle.choice.specs.Reading as choice_files
use Rattle.cases.specs.Charts.{Chart, weighted, choice, sittings, SameChain, SameSystem}

-- numbers of 16 bits and of 32, high byte first
abbrev pub sixteen : List ℕ → List ℕ
sixteen numbers = flat_map (λ x. x / 256 ∷ x % 256 ∷ []) numbers

abbrev pub thirty_two : List ℕ → List ℕ
thirty_two numbers = sixteen (flat_map (λ x. x / 65536 ∷ x % 65536 ∷ []) numbers)

-- the header's eight fields, the bands, and the routes
abbrev pub file_of_four : List ℕ
file_of_four = sixteen (1 ∷ 4 ∷ 1 ∷ 2 ∷ 4 ∷ 16 ∷ 20 ∷ 52 ∷ [])
    ++ ((0 ∷ 1 ∷ 0 ∷ 0 ∷ [])
    ++ sixteen (3 ∷ 1 ∷ 0 ∷ 0 ∷ 0 ∷ 4 ∷ 0 ∷ 0 ∷ 0 ∷ 2 ∷ 2 ∷ 0 ∷ 0 ∷ 0 ∷ 0 ∷ 4 ∷ []))

abbrev pub file_of_three : List ℕ
file_of_three = sixteen (2 ∷ 3 ∷ 1 ∷ 2 ∷ 0 ∷ 16 ∷ 19 ∷ 31 ∷ []) ++ ((0 ∷ 1 ∷ 0 ∷ []) ++ thirty_two (3 ∷ 2 ∷ 4 ∷ []))

abbrev pub file_of_widest : List ℕ
file_of_widest = sixteen (2 ∷ 32 ∷ 999 ∷ 1000 ∷ 0 ∷ 16 ∷ 48 ∷ 176 ∷ []) ++ (replicate 32 0 ++ thirty_two (replicate 32 1))

-- a header with 33 sections, and one with the discount 2/2
abbrev pub file_of_33 : List ℕ
file_of_33 = sixteen (1 ∷ 33 ∷ 1 ∷ 2 ∷ 4 ∷ 16 ∷ 20 ∷ 16 ∷ [])

abbrev pub file_of_no_discount : List ℕ
file_of_no_discount = sixteen (1 ∷ 4 ∷ 2 ∷ 2 ∷ 4 ∷ 16 ∷ 20 ∷ 16 ∷ [])

-- what the reader of the kind that a file names answers; a file that names none is read as a weighted chart
abbrev pub read_answer : Option Kind → List ℕ → Result ℕ ReadRefusal
read_answer None bytes = weighted_files.read_answer bytes
read_answer (Some kind.Weighted) bytes = weighted_files.read_answer bytes
read_answer (Some kind.Choice) bytes = choice_files.read_answer bytes

-- the file holds the chart, or it is refused as one of a weighted chart, with this number and place
abbrev pub ReadAs : List ℕ → Result Chart (List ℕ) → Type 0
ReadAs bytes (Ok (weighted c)) = (weighted_files.read_answer bytes ≡ Ok c.n) × SameChain (weighted_files.chain_in bytes) c
ReadAs bytes (Ok (choice c)) = (choice_files.read_answer bytes ≡ Ok c.n) × SameSystem (choice_files.system_in bytes) c
ReadAs bytes (Ok (sittings c d)) = ⊥
ReadAs bytes (Err numbers) = (e : ReadRefusal) × (weighted_files.read_answer bytes ≡ Err e) × (number e ∷ place e ∷ [] ≡ numbers)
