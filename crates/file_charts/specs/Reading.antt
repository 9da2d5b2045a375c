-- What a chart file is read as, by the kind that it names.
use Rattle.std.specs.Prelude.{◌≡◌, ℕ, List, Some, None, Ok, Err, Option, Result}
use Rattle.files.specs.declared.kind.Kind.{Kind}
use Rattle.files.specs.declared.kind.Kind.TheVariants as kind
use Rattle.files.specs.declared.refusal.ReadRefusal.{ReadRefusal}
use Rattle.weighted.specs.View.{chain}
use Rattle.weighted.specs.Reading as weighted
use Rattle.choice.specs.View.{system}
use Rattle.choice.specs.Reading as choice
use Rattle.file_charts.specs.declared.charts.FileChart.{FileChart}
use Rattle.file_charts.specs.declared.charts.FileChart.TheVariants.{Weighted, Choice}

-- the file passes every check of a weighted chart's reader and holds this chart, or the first check that it fails
abbrev pub ReadAsWeighted : List ℕ → Result FileChart ReadRefusal → Type 0
ReadAsWeighted bs (Ok (Weighted w)) = (weighted.read_refusal bs ≡ None) × (chain w ≡ weighted.chain_in bs)
ReadAsWeighted bs (Ok (Choice c)) = ⊥
ReadAsWeighted bs (Err e) = weighted.read_answer bs ≡ Err e

-- the same of a choice chart
abbrev pub ReadAsChoice : List ℕ → Result FileChart ReadRefusal → Type 0
ReadAsChoice bs (Ok (Weighted w)) = ⊥
ReadAsChoice bs (Ok (Choice c)) = (choice.read_refusal bs ≡ None) × (system c ≡ choice.system_in bs)
ReadAsChoice bs (Err e) = choice.read_answer bs ≡ Err e

-- a file that names no kind is read as a weighted chart
abbrev pub ReadAs : Option Kind → List ℕ → Result FileChart ReadRefusal → Type 0
ReadAs None bs r = ReadAsWeighted bs r
ReadAs (Some kind.Weighted) bs r = ReadAsWeighted bs r
ReadAs (Some kind.Choice) bs r = ReadAsChoice bs r
