-- What a matrix means.
use Rattle.std.specs.Prelude.{ℕ, Bool, ◌||◌, ◌==◌}
use Rattle.graphs.specs.Tests.{edge_test}
use Rattle.schemes.specs.Counted.{counted_meaning}
use Rattle.schemes.specs.Meanings.{Meaning}
use Rattle.schemes.specs.declared.counted.Counted.{Counted}
use Rattle.schemes.specs.declared.matrix.ClosedGraph.{ClosedGraph}

-- x reaches y where it is y, or the closed graph has the edge
abbrev pub closed_test : ClosedGraph → ℕ → ℕ → Bool
closed_test s x y = (x == y) || edge_test s.closed x y

abbrev pub matrix_meaning : Counted ClosedGraph → Meaning
matrix_meaning = counted_meaning (λ s. s.vertices) closed_test
