use Rattle.rules.proofs.Links.{Linking}
use Rattle.rules.proofs.parts.Parts.links.Given as goal

abbrev pub invariant-loop-edge : goal.invariant-loop-edge
invariant-loop-edge l = Linking l.self.edges.now l.row l.graph l.edge-index
