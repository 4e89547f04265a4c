use Rattle.std.proofs.Common.{◌≡◌, ℕ, ◌⊎◌, rules}
use Rattle.records.proofs.Chains.{all_in_range}
use Rattle.graphs.specs.Graphs.{Joins}
use Rattle.graphs.specs.Rows.{Holds}
use Rattle.rules.specs.Forks.{Linked}
use Rattle.rules.specs.Parts.{parts_spec}
use Rattle.rules.proofs.Links.{reached}
use Rattle.rules.proofs.Scans.{all_held}
use Rattle.rules.proofs.parts.Parts.connects.Goals as goal

pub returns : goal.returns
returns c =
    let row = c.args.row.now in
    let x = c.args.x in
    let closed = c.close.new.self in
    let P : ℕ → Type 0 = λ y. (y ≡ x) ⊎ Joins closed x y in
    let reach = reached (Linked (parts_spec c.args.self.now) row) c.links-graph.result closed c.links-graph.ensures c.close.ensures x in
    let all =
    all_held c.all.result row P
    (all_in_range _ _ _ c.all.result (λ y. Holds row y → P y) c.all.ensures.ran (λ y q k. search rules) (λ y q k. search rules)) in (
      λ t y h. (reach y).0 (all.0 t y h),
      λ f. all.1 (λ y h. (reach y).1 (f y h)),
    )
