use Rattle.std.proofs.Common.{rules}
use Rattle.graphs.specs.Rows.{Holds}
use Rattle.graphs.proofs.Rows.{has_test}
use Rattle.graphs.proofs.row.Row.has.Goals as goal

pub returns : goal.returns
unfolding Holds
returns c = let law = has_test c.args.self.now.words c.args.x in search (rules, law)
