-- Tests that compute: whether a row holds a number, and whether a graph has an edge.
use Rattle.std.specs.Prelude.{ℕ, ◌/◌, ◌%◌, Bool, ◌&&◌, ◌==◌, nat_lt, slice_index, slice_index_or}
use Rattle.std.specs.Int.{bit_at}
use Rattle.graphs.specs.declared.row.Row.{Row}
use Rattle.graphs.specs.Rows.{vertices}
use Rattle.graphs.specs.Grids.{none}
use Rattle.graphs.specs.Graphs.{Graph}

-- whether x is a vertex whose bit is set in the row
unfoldable pub row_test : Row → ℕ → Bool
row_test row x = nat_lt x vertices && bit_at (slice_index row.words (x / 64)) (x % 64) == 1

-- whether an edge leads from x to y
unfoldable pub edge_test : Graph → ℕ → ℕ → Bool
edge_test g x y = nat_lt x vertices && row_test (slice_index_or g.rows x none) y
