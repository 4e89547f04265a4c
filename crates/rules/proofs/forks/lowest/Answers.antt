use Rattle.std.proofs.Common.{rules}
use Rattle.records.proofs.Chains.{lowest_in_range}
use Rattle.graphs.proofs.Rows.{holds_range}
use Rattle.graphs.specs.Rows.{Holds}
use Rattle.rules.proofs.Scans.{lowest_below}
use Rattle.rules.proofs.forks.lowest.Goals as goal

pub returns : goal.returns
returns c =
    let row = c.args.row.now in
    lowest_below 64 (Holds row) _ (λ f x h. f x (holds_range row x h) h) c.find.result
    (lowest_in_range _ _ _ c.find.result (Holds row) c.find.ensures.ran (λ x q k. search rules) (λ x q k. search rules))
