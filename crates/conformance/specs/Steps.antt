-- What a grid tells of the steps of a run.
use Rattle.std.specs.Prelude.{◌≡◌, ℕ, ◌<◌, ◌↔◌}
use Rattle.model.specs.Specifications.{Spec}
use Rattle.model.specs.Runs.{Run}
use Rattle.records.specs.Kinds.{copy_kind}
use Rattle.graphs.specs.Grids.{Marks}
use Rattle.graphs.specs.Rows.{vertices}
use Rattle.graphs.specs.declared.grid.Grid.{Grid}
use Rattle.conformance.specs.Nonconforming.{HasStep}

-- the grid marks a copy with a vertex exactly where a step has them as its context and origin
abbrev pub MarksSteps : Run → Grid copy_kind.ceiling → Type 0
MarksSteps r g = (i x : ℕ) → Marks g i x ↔ HasStep r i x

-- the grid does not mark copy i with some vertex at home in its block
abbrev pub Unmarked : Spec → Run → Grid copy_kind.ceiling → ℕ → Type 0
Unmarked s r g i = (x : ℕ) × (x < s.n) × (s.home x ≡ r.block i) × (¬ (Marks g i x))

-- context and origin of step u have a place in the grid
abbrev pub PairFits : Run → ℕ → Type 0
PairFits r u = (r.context u < copy_kind.ceiling) × (r.origin u < vertices)
