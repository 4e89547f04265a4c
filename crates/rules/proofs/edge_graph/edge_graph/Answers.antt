use Rattle.std.proofs.Common.{ℕ, ◌↔◌, subst}
use Rattle.model.specs.Specifications.{Spec, Edge}
use Rattle.graphs.specs.Graphs.{Joins}
use Rattle.rules.proofs.edge_graph.edge_graph.Goals as goal

pub returns : goal.returns
returns c = subst (λ (s : Spec). (x y : ℕ) → Joins c.graph.result x y ↔ Edge s x y) c.from-parts.ensures c.graph.ensures
