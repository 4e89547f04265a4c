use Rattle.std.proofs.Common.{rules}
use Rattle.records.proofs.Chains.{all_in_slice}
use Rattle.rules.specs.Blocks.{inner_spec}
use Rattle.rules.specs.Loops.{ends_at, EdgeKeeps}
use Rattle.rules.proofs.Scans.{all_edges}
use Rattle.rules.proofs.inner.Inner.edges_keep.Goals as goal

pub returns : goal.returns
returns c =
    let b = c.args.self.now in
    let es = b.drawn.parts.edges.now in
    let P = EdgeKeeps c.args.row.now (ends_at (inner_spec b) b.number) in
    all_edges c.all.result es P
    (all_in_slice _ _ _ c.all.result es (λ e. P e.tail e.head) c.all.ensures.ran (search rules) (λ x q k. search rules) (λ x q k. search rules))
