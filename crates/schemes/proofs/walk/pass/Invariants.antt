use Rattle.schemes.specs.Walks.{Passed}
use Rattle.schemes.proofs.walk.pass.Given as goal

abbrev pub invariant-loop-edge : goal.invariant-loop-edge
invariant-loop-edge l = Passed l.edges l.initial.seen l.seen l.marked l.edge-index
