use Rattle.graphs.specs.Graphs.{Joins}
use Rattle.graphs.proofs.Closing.{Closing}
use Rattle.graphs.proofs.graph.Grid+VERTICES.close.Given as goal

abbrev pub invariant-loop-k : goal.invariant-loop-k
invariant-loop-k l = Closing (Joins l.initial.self) (Joins l.self) l.k
