-- Cycles in the closed graph are cycles of the specification.
use Rattle.std.proofs.Common.{ℕ, ◌<◌, ◌↔◌}
use Rattle.model.specs.Paths.{Path⁺}
use Rattle.model.specs.Specifications.{Spec, Edge, InRanges, Acyclic}
use Rattle.graphs.specs.Graphs.{Graph, Joins}
use Rattle.graphs.proofs.Closing.{path⁺_map}
use Rattle.rules.specs.Unsealed.{OnCycle}

pub on_cycle : (s : Spec) (g g' : Graph) → ((x y : ℕ) → Joins g x y ↔ Edge s x y) → ((x y : ℕ) → Joins g' x y ↔ Path⁺ (Joins g) x y) → (x : ℕ) → Joins g' x x ↔ OnCycle s x
on_cycle s g g' drawn closed x = ((λ j. path⁺_map (λ a b. (drawn a b).0) ((closed x x).0 j)), λ p. (closed x x).1 (path⁺_map (λ a b. (drawn a b).1) p))

-- a cycle passes through vertices alone
pub acyclic_of : (s : Spec) → InRanges s → ((x : ℕ) → x < s.n → ¬ (OnCycle s x)) → Acyclic s
acyclic_of s r f x p = f x (r.edge_range p.0 x p.2).1 p
