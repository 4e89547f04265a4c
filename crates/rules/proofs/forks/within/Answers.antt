use Rattle.std.proofs.Common.{rules}
use Rattle.records.proofs.Chains.{all_in_range}
use Rattle.graphs.specs.Rows.{Holds}
use Rattle.rules.proofs.Scans.{all_held}
use Rattle.rules.proofs.forks.within.Goals as goal

pub returns : goal.returns
returns c =
    let row = c.args.row.now in
    let other = c.args.other.now in
    all_held c.all.result row (Holds other)
    (all_in_range _ _ _ c.all.result (λ x. Holds row x → Holds other x) c.all.ensures.ran (λ x q k. search rules) (λ x q k. search rules))
