use Rattle.std.proofs.Common.{rules}
use Rattle.formats.specs.Of.{spec_of}
use Rattle.schemes.proofs.Matrices.{closed_reach}
use Rattle.schemes.proofs.matrix.ClosedGraphSkeleton.learn.Goals as goal

pub returns : goal.returns
returns c =
    let joined = rw c.specification.ensures at c.edge_graph-edges.ensures in
    let reaches = closed_reach (spec_of c.args.specification.now.specification) c.edge_graph-edges.result c.close.new.self joined c.close.ensures in
    λ _. record { counts = search rules; reaches = λ x y _ _. reaches x y }
