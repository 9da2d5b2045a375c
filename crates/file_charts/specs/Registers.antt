-- What every register over the chart of a file promises of the distance, as the chart's kind has it: over every top and after every history.
use Rattle.history.specs.Promises.{Always}
use Rattle.chain.specs.Registers as chain
use Rattle.transitions.specs.Registers as transitions
use Rattle.weighted.specs.View.{chain as chain_of}
use Rattle.choice.specs.View.{system as system_of}
use Rattle.file_charts.specs.declared.charts.FileChart.{FileChart}
use Rattle.file_charts.specs.declared.charts.FileChart.TheVariants.{Weighted, Choice}
use Rattle.file_charts.specs.Meaning.{means}

-- the upper table and the lower entries bound the distances from both sides
abbrev pub RegistersBound : FileChart → Type 0
RegistersBound (Weighted w) = Always (means (Weighted w)) (λ K σ h. chain.Bounds (chain_of w) K σ)
RegistersBound (Choice c) = Always (means (Choice c)) (λ K σ h. transitions.Bounds (system_of c) K σ)

-- at a judged pair whose two entries are equal, they are the distance
abbrev pub SettledIsDistance : FileChart → Type 0
SettledIsDistance (Weighted w) = Always (means (Weighted w)) (λ K σ h. chain.SettlesAtDistance (chain_of w) K σ)
SettledIsDistance (Choice c) = Always (means (Choice c)) (λ K σ h. transitions.SettlesAtDistance (system_of c) K σ)

-- no lower entry is above the distance, and no upper one below it
abbrev pub EntriesBoundDistance : FileChart → Type 0
EntriesBoundDistance (Weighted w) = Always (means (Weighted w)) (λ K σ h. chain.BoundsDistance (chain_of w) K σ)
EntriesBoundDistance (Choice c) = Always (means (Choice c)) (λ K σ h. transitions.BoundsDistance (system_of c) K σ)
