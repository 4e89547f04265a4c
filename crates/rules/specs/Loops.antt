-- The rule of loops, vertex by vertex and edge by edge, over rows: what the code tests.
use Rattle.std.specs.Prelude.{◌≡◌, ℕ, ◌<◌, ◌⊎◌}
use Rattle.model.specs.Specifications.{Spec, Edge}
use Rattle.records.specs.declared.kinds.Ends.{Ends}
use Rattle.graphs.specs.Rows.{Holds}
use Rattle.graphs.specs.declared.row.Row.{Row}

-- a vertex of the domain, but the source, has an edge into it, and but the sink one out of it
abbrev pub VertexKeeps : Row → Row → Row → Ends → ℕ → Type 0
VertexKeeps domain heads tails e x = Holds domain x → ((x ≡ e.source) ⊎ Holds heads x) × ((x ≡ e.sink) ⊎ Holds tails x)

-- an edge into the domain, but to the source, starts in it; an edge out of a vertex of it, but the sink, ends in it
abbrev pub EdgeKeeps : Row → Ends → ℕ → ℕ → Type 0
EdgeKeeps domain e x y = (Holds domain y → (y ≡ e.source) ⊎ Holds domain x) × (Holds domain x → (x ≡ e.sink) ⊎ Holds domain y)

-- source and sink of block k
abbrev pub ends_at : Spec → ℕ → Ends
ends_at s k = record { source = s.source k; sink = s.sink k }

-- The row keeps the rule of loops in the place of the domain of block k: source and sink are in it, and its vertices and the edges keep to it.
pub record LoopRow (s : Spec) (k : ℕ) (row heads tails : Row) : Type 0 where
  pub source_held : Holds row (s.source k)
  pub sink_held : Holds row (s.sink k)
  pub vertices_keep : (x : ℕ) → x < s.n → VertexKeeps row heads tails (ends_at s k) x
  pub edges_keep : (x y : ℕ) → Edge s x y → EdgeKeeps row (ends_at s k) x y
