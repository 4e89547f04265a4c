use Rattle.std.proofs.Common.{rules, ◌≡◌}
use Rattle.records.specs.Tables.{kept}
use Rattle.records.specs.declared.kinds.SpecEdge.{SpecEdge}
use Rattle.records.proofs.Chains.{any_in_slice}
use Rattle.topuivahe.proofs.Edges.{tells_edge}
use Rattle.topuivahe.proofs.members.has_edge.Goals as goal

pub returns : goal.returns
returns c =
    let es = kept c.args.specification.now.edges in
    tells_edge es c.any.result c.args.x c.args.y (any_in_slice _ _ _ c.any.result es (λ (e : SpecEdge). (e.tail ≡ c.args.x) × (e.head ≡ c.args.y)) c.any.ensures.ran (search rules) (λ x q k. search rules) (λ x q k. search rules))
