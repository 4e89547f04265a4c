-- Where an edge stands in an ascending list of edges.
use Rattle.std.specs.Prelude.{◌≡◌, ℕ, ◌<◌, ◌⊎◌, List, length, slice_index_or}
use Rattle.formats.specs.Runs.{no_run_edge}
use Rattle.records.specs.declared.kinds.RunEdge.{RunEdge}

-- the edge at index k comes before the edge from u to w: by its tail, or by its head where the tails are equal
abbrev pub Below : List RunEdge → ℕ → ℕ → ℕ → Type 0
Below es u w k = ((slice_index_or es k no_run_edge).tail < u) ⊎ (((slice_index_or es k no_run_edge).tail ≡ u) × ((slice_index_or es k no_run_edge).head < w))

-- the edge from u to w stands at index k
abbrev pub Stands : List RunEdge → ℕ → ℕ → ℕ → Type 0
Stands es u w k = (k < length es) × ((slice_index_or es k no_run_edge).tail ≡ u) × ((slice_index_or es k no_run_edge).head ≡ w)
