use Rattle.std.proofs.Common.{rules}
use Rattle.records.proofs.Chains.{all_in_range}
use Rattle.rules.specs.Blocks.{inner_spec}
use Rattle.rules.specs.Loops.{ends_at, VertexKeeps}
use Rattle.rules.proofs.Scans.{all_below}
use Rattle.rules.proofs.inner.Inner.vertices_keep.Goals as goal

pub returns : goal.returns
returns c =
    let b = c.args.self.now in
    let s = inner_spec b in
    let P = VertexKeeps c.args.row.now b.drawn.heads b.drawn.tails (ends_at s b.number) in
    all_below c.all.result s.n P
    (all_in_range _ _ _ c.all.result P c.all.ensures.ran (λ x q k. search rules) (λ x q k. search rules))
