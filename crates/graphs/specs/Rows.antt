-- Rows: sets of numbers as bits.
use Rattle.std.specs.Prelude.{◌≡◌, ℕ, ◌*◌, ◌/◌, ◌%◌, ◌<◌, List, slice_index}
use Rattle.std.specs.Int.{bit_at}
use Rattle.graphs.specs.declared.row.Row.{Row}

-- how many words a row has: the number that src/row.rt calls WORDS
abbrev pub width : ℕ
width = 1

-- how many numbers a row can hold: the vertices are the numbers below this one
abbrev pub vertices : ℕ
vertices = 64 * width

-- x is in the set whose bits these words of 64 bits are: bit x % 64 of word x / 64 is set; past the last word no bit is
unfoldable pub Has : List ℕ → ℕ → Type 0
Has words x = bit_at (slice_index words (x / 64)) (x % 64) ≡ 1

-- x is in the row: it is a vertex, and its bit is set; a row of the code has no bit past the last vertex, and the first part says so of any
unfoldable pub Holds : Row → ℕ → Type 0
Holds row x = (x < vertices) × Has row.words x
