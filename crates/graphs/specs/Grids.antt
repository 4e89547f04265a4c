-- Grids: a row of vertices for each number below a bound.
use Rattle.std.specs.Prelude.{ℕ, ◌<◌, [], slice_index_or}
use Rattle.graphs.specs.declared.row.Row.{Row}
use Rattle.graphs.specs.declared.grid.Grid.{Grid}
use Rattle.graphs.specs.Rows.{Holds}

-- the row of no word, which holds nothing
abbrev pub none : Row
none = record { words = [] }

-- the pair of i and x is in the set: there is a row i, and it holds x
unfoldable pub Marks : {ROWS : ℕ} → Grid ROWS → ℕ → ℕ → Type 0
Marks {ROWS} g i x = (i < ROWS) × Holds (slice_index_or g.rows i none) x
