use Rattle.std.proofs.Common.{take}
use Rattle.rules.specs.Parts.{Marks}
use Rattle.rules.proofs.parts.Parts.drawn.Given as goal

abbrev pub invariant-loop-edge : goal.invariant-loop-edge
invariant-loop-edge l = let passed = take l.edge-index l.self.edges.now in Marks (λ e. e.head) passed l.heads × Marks (λ e. e.tail) passed l.tails
