use Rattle.std.proofs.Common.{◌<◌, arith}
use Rattle.graphs.specs.Graphs.{Joins}
use Rattle.graphs.specs.Rows.{vertices}
use Rattle.graphs.proofs.Grids.{marks_range}
use Rattle.graphs.proofs.Closing.{closing_none, closing_more, closing_all}
use Rattle.graphs.proofs.graph.Grid+VERTICES.close.Goals as goal

pub loop-k-init : goal.loop-k-init
loop-k-init c = closing_none (Joins c.args.self.now)

pub loop-k-preserved : goal.loop-k-preserved
loop-k-preserved c = closing_more _ _ _ _ c.loop-k.invariant c.join_through.ensures

pub returns : goal.returns
returns c =
    closing_all _ _ c.loop-k.k
    (λ x y j. let inside : x < vertices = (marks_range c.args.self.now x y j).0 in omega arith)
    c.loop-k.invariant
