-- The tests say what they should.
use Rattle.std.proofs.Common.{ℕ, T, ◌↔◌, get_or, arith}
use Rattle.std.proofs.lemmas.Bool.Decides.{nat_tests}
use Rattle.graphs.specs.declared.row.Row.{Row}
use Rattle.graphs.specs.Rows.{Has, Holds}
use Rattle.graphs.specs.Grids.{none, Marks}
use Rattle.graphs.specs.Graphs.{Graph, Joins}
use Rattle.graphs.specs.Tests.{row_test, edge_test}

pub row_test_law : (row : Row) (x : ℕ) → T (row_test row x) ↔ Holds row x
unfolding row_test Has Holds
row_test_law row x = grind (arith, nat_tests)

pub edge_test_law : (g : Graph) (x y : ℕ) → T (edge_test g x y) ↔ Joins g x y
unfolding edge_test Marks
edge_test_law g x y = let r = row_test_law (get_or g.rows x none) y in grind (arith, nat_tests)
