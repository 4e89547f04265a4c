-- The pairs of origins that a derived edge can have.
use Rattle.std.specs.Prelude.{◌≡◌, ℕ, ◌<◌, ◌⊎◌, ◌↔◌}
use Rattle.std.specs.Coded.{×_prop, le_prop}
use Rattle.std.proofs.Math.Nat.{ℕ_set}
use Rattle.model.specs.Specifications.{Spec, Edge}
use Rattle.graphs.specs.Graphs.{Graph, Joins}
use Rattle.graphs.specs.Grids.{Marks}
use Rattle.graphs.specs.Rows.{Holds, Has}

-- the graph has the edges of the specification
abbrev pub HasEdges : Spec → Graph → Type 0
HasEdges s g = (x y : ℕ) → Joins g x y ↔ Edge s x y

-- that a graph has an edge is one fact
pub joins_prop : (g : Graph) (x y : ℕ) → IsProp (Joins g x y)
unfolding Marks Holds Has
joins_prop g x y = ×_prop le_prop (×_prop le_prop (ℕ_set _ _))

-- x is the sink and y the source of a loop numbered below k
abbrev pub TurnsBelow : Spec → ℕ → ℕ → ℕ → Type 0
TurnsBelow s k x y = (j : ℕ) × (0 < j) × (j < k) × (s.kind j ≡ 2) × (s.sink j ≡ x) × (s.source j ≡ y)

-- the graph has the edges of the specification, and one from the sink to the source of each loop numbered below k
abbrev pub LinkedBelow : Spec → ℕ → Graph → Type 0
LinkedBelow s k g = (x y : ℕ) → Joins g x y ↔ (Edge s x y ⊎ TurnsBelow s k x y)

-- the same, for every loop
abbrev pub Linked : Spec → Graph → Type 0
Linked s g = LinkedBelow s s.b g
