use Rattle.std.proofs.Common.{rules}
use Rattle.records.proofs.Chains.{lowest_in_range}
use Rattle.graphs.specs.Graphs.{Joins}
use Rattle.rules.specs.Parts.{parts_spec}
use Rattle.rules.specs.Unsealed.{OnCycle}
use Rattle.rules.proofs.CycleLaws.{on_cycle, acyclic_of}
use Rattle.rules.proofs.PartRanges.{parts_ranges}
use Rattle.rules.proofs.Scans.{lowest_below}
use Rattle.rules.proofs.parts.Parts.cycle.Goals as goal

pub returns : goal.returns
returns c =
    let s = parts_spec c.args.self.now in
    let law = on_cycle s c.graph-graph.result c.close.new.self c.graph-graph.ensures c.close.ensures in
    lowest_below s.n (OnCycle s) _ (acyclic_of s (parts_ranges c.args.self.now)) c.find.result
    (lowest_in_range _ _ _ c.find.result (OnCycle s) c.find.ensures.ran (λ x q k. (law x).0 (search rules)) (λ x q k. (search rules, λ p. let n : ¬ (Joins c.close.new.self x x) = search rules in n ((law x).1 p))))
