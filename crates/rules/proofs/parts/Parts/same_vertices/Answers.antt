use Rattle.std.proofs.Common.{rules, length, ◌↔◌}
use Rattle.records.proofs.Chains.{all_in_range}
use Rattle.graphs.specs.Rows.{Holds}
use Rattle.rules.proofs.Scans.{all_below}
use Rattle.rules.proofs.parts.Parts.same_vertices.Goals as goal

pub returns : goal.returns
returns c =
    all_below c.all.result (length c.args.self.now.vertices.now) (λ x. Holds c.args.a.now x ↔ Holds c.args.b.now x)
    (all_in_range _ _ _ c.all.result (λ x. Holds c.args.a.now x ↔ Holds c.args.b.now x) c.all.ensures.ran (λ x q k. search rules) (λ x q k. search rules))
