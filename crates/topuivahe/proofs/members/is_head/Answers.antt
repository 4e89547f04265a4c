use Rattle.std.proofs.Common.{rules, ◌≡◌}
use Rattle.records.specs.Tables.{kept}
use Rattle.records.specs.declared.kinds.SpecEdge.{SpecEdge}
use Rattle.records.proofs.Chains.{any_in_slice}
use Rattle.topuivahe.proofs.Edges.{tells_entered}
use Rattle.topuivahe.proofs.members.is_head.Goals as goal

pub returns : goal.returns
returns c =
    let es = kept c.args.specification.now.edges in
    tells_entered es c.any.result c.args.vertex (any_in_slice _ _ _ c.any.result es (λ (e : SpecEdge). e.head ≡ c.args.vertex) c.any.ensures.ran (search rules) (λ x q k. search rules) (λ x q k. search rules))
