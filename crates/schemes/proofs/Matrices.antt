-- What a matrix means is the reach of the specification whose graph it closed.
use Rattle.std.proofs.Common.{ℕ, ◌||◌, T, eqb, ◌↔◌}
use Rattle.model.specs.Paths.{Path*, Path⁺}
use Rattle.model.specs.Specifications.{Spec, Edge}
use Rattle.graphs.specs.Graphs.{Graph}
use Rattle.graphs.specs.Graphs.{Joins}
use Rattle.graphs.specs.Tests.{edge_test}
use Rattle.graphs.proofs.Closing.{path⁺_map}
use Rattle.graphs.proofs.Tests.{edge_test_law}
use Rattle.schemes.proofs.Reaching.{reach_by}

-- the closed graph of the edges has the reach of the specification
pub closed_reach : (s : Spec) (edges closed : Graph) → ((x y : ℕ) → Joins edges x y ↔ Edge s x y)
    → ((x y : ℕ) → Joins closed x y ↔ Path⁺ (Joins edges) x y) → (x y : ℕ) → T (eqb x y || edge_test closed x y) ↔ Path* (Edge s) x y
closed_reach s edges closed e c x y = reach_by (Edge s) x y (edge_test closed x y) (
  (λ t. path⁺_map (λ a b. (e a b).0) ((c x y).0 ((edge_test_law closed x y).0 t))),
  λ p. (edge_test_law closed x y).1 ((c x y).1 (path⁺_map (λ a b. (e a b).1) p)),
)
