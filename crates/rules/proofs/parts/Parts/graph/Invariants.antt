use Rattle.rules.proofs.Edges.{HasFirst}
use Rattle.rules.proofs.parts.Parts.graph.Given as goal

abbrev pub invariant-loop-edge : goal.invariant-loop-edge
invariant-loop-edge l = HasFirst l.self.edges.now l.graph l.edge-index
