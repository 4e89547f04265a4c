use Rattle.std.proofs.Common.{arith}
use Rattle.std.proofs.lemmas.Grind.{common_steps}
use Rattle.graphs.proofs.Tests.{edge_test_law}
use Rattle.schemes.proofs.matrix.ClosedGraphSkeleton.reaches.Goals as goal

pub returns-else-x-y : goal.returns-else-x-y
returns-else-x-y c = let test = edge_test_law c.args.self.now.closed c.args.x c.args.y in grind (arith, common_steps)
