-- The rule of forks, of a row of vertices in the place of a domain.
use Rattle.std.specs.Prelude.{◌≡◌, ℕ, ◌<◌, ◌⊎◌}
use Rattle.model.specs.Forests.{Chain}
use Rattle.model.specs.Paths.{Path*}
use Rattle.model.specs.Specifications.{Spec, Edge, Domain}
use Rattle.graphs.specs.Rows.{Holds}
use Rattle.graphs.specs.declared.row.Row.{Row}

-- where the row holds x it holds its neighbour y too, or y is the vertex z
abbrev pub Stays : Row → ℕ → ℕ → ℕ → Type 0
Stays row x y z = Holds row x → Holds row y ⊎ (y ≡ z)

-- an edge into the row starts in it or at the source of block k, an edge out of it ends in it or at the sink
abbrev pub EdgesStay : Spec → ℕ → Row → Type 0
EdgesStay s k row = (x y : ℕ) → Edge s x y → Stays row y x (s.source k) × Stays row x y (s.sink k)

-- an edge within the row, taken without direction
abbrev pub Linked : Spec → Row → ℕ → ℕ → Type 0
Linked s row x y = Holds row x × Holds row y × (Edge s x y ⊎ Edge s y x)

-- vertex x lies in the domain of block k, or k is a fork and x the vertex z
abbrev pub EndAt : Spec → ℕ → ℕ → ℕ → Type 0
EndAt s k x z = Domain s k x ⊎ ((s.kind k ≡ 1) × (x ≡ z))

-- every fork whose domain holds vertex x is above k
abbrev pub ForksAbove : Spec → ℕ → ℕ → Type 0
ForksAbove s k x = (j : ℕ) → 0 < j → j < s.b → s.kind j ≡ 1 → Domain s j x → Chain s.above k j

-- The row keeps the rule of forks in the place of the domain of block k: neither source nor sink is in it, each of its vertices has an edge
-- into it and one out of it, edges keep to it, and edges within it connect x with each of its vertices.
pub record ForkRow (s : Spec) (k : ℕ) (row heads tails : Row) (x : ℕ) : Type 0 where
  pub source_off : ¬ (Holds row (s.source k))
  pub sink_off : ¬ (Holds row (s.sink k))
  pub all_heads : (y : ℕ) → Holds row y → Holds heads y
  pub all_tails : (y : ℕ) → Holds row y → Holds tails y
  pub edges_stay : EdgesStay s k row
  pub connects : (y : ℕ) → Holds row y → Path* (Linked s row) x y
