-- Graphs: grids with a row of successors for each vertex.
use Rattle.std.specs.Prelude.{ℕ}
use Rattle.graphs.specs.declared.grid.Grid.{Grid}
use Rattle.graphs.specs.Grids.{Marks}
use Rattle.graphs.specs.Rows.{vertices}

-- a grid with a row for each vertex: what the code calls a Graph
abbrev pub Graph : Type 0
Graph = Grid vertices

-- an edge leads from x to y: x is a vertex, and its row holds y
abbrev pub Joins : Graph → ℕ → ℕ → Type 0
Joins g x y = Marks g x y
