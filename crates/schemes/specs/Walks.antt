-- Walks along the edges of a list, with the vertices that were met marked in a row.
use Rattle.std.specs.Prelude.{ℕ, ◌<◌, Bool, T, List, length}
use Rattle.model.specs.Paths.{Path*}
use Rattle.records.specs.declared.kinds.SpecEdge.{SpecEdge}
use Rattle.formats.specs.Specifications.{listed}
use Rattle.graphs.specs.Rows.{Holds, vertices}
use Rattle.graphs.specs.declared.row.Row.{Row}
use Rattle.rules.specs.Parts.{tail_at, head_at}

-- an edge of the list leads from x to y
abbrev pub Listed : List SpecEdge → ℕ → ℕ → Type 0
Listed es x y = T (listed es x y)

-- a row can hold the tail and the head of each edge
abbrev pub RowHolds : List SpecEdge → Type 0
RowHolds es = (i : ℕ) → i < length es → (tail_at es i < vertices) × (head_at es i < vertices)

-- The marks before and after a pass over the first i edges, and whether it marked a vertex. What it marks lies on a path from wherever all
-- marks before it lay on one; and if it marks none, the head of each edge was marked where its tail was.
pub record Passed (es : List SpecEdge) (before after : Row) (marked : Bool) (i : ℕ) : Type 0 where
  pub grows : (k : ℕ) → Holds before k → Holds after k
  pub sound : (x : ℕ) → ((k : ℕ) → Holds before k → Path* (Listed es) x k) → (k : ℕ) → Holds after k → Path* (Listed es) x k
  pub one_new : T marked → (k : ℕ) × (¬ (Holds before k)) × Holds after k
  pub none_new : (¬ (T marked)) → (k : ℕ) → Holds after k → Holds before k
  pub closed : (¬ (T marked)) → (j : ℕ) → j < i → Holds before (tail_at es j) → Holds before (head_at es j)
