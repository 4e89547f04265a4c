use Rattle.std.proofs.Common.{rules}
use Rattle.records.proofs.Chains.{all_in_range}
use Rattle.rules.specs.Blocks.{drawn_spec}
use Rattle.rules.specs.Loops.{ends_at}
use Rattle.rules.specs.Parts.{EndsFit}
use Rattle.rules.proofs.EndLaws.{whole_fit}
use Rattle.rules.proofs.Scans.{all_below, told}
use Rattle.rules.proofs.drawn.Drawn.whole_ends.Goals as goal

pub returns : goal.returns
returns c =
    let d = c.args.self.now in
    let s = drawn_spec d in
    let P = EndsFit d.heads d.tails (ends_at s 0) in
    told c.all.result
    (all_below c.all.result s.n P
    (all_in_range _ _ _ c.all.result P c.all.ensures.ran (λ x q k. search rules) (λ x q k. search rules)))
    (whole_fit d)
