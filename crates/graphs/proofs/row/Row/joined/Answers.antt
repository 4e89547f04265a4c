use Rattle.std.proofs.Common.{arith, rules}
use Rattle.graphs.specs.Rows.{Holds, width}
use Rattle.graphs.proofs.Rows.{joined_has}
use Rattle.graphs.proofs.row.Row.joined.Goals as goal

pub returns : goal.returns
unfolding Holds
returns c y =
    let law = joined_has _ c.args.self.words c.args.other.words c.from_fn.result width (λ i r q d. search rules) c.from_fn.ensures.items.each y in grind arith
