use Rattle.std.proofs.Common.{◌≡◌, rules}
use Rattle.records.proofs.Chains.{all_in_range}
use Rattle.model.specs.Forests.{Chain}
use Rattle.model.specs.Specifications.{Domain}
use Rattle.rules.specs.Parts.{parts_spec}
use Rattle.rules.proofs.parts.Parts.forks_above.Goals as goal

pub returns : goal.returns
returns c =
    let s = parts_spec c.args.self.now in
    all_in_range _ _ _ c.all.result (λ j. s.kind j ≡ 1 → Domain s j c.args.x → Chain s.above c.args.k j) c.all.ensures.ran (λ x q k. search rules) (λ x q k. search rules)
