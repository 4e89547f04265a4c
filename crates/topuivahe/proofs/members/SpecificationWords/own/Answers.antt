use Rattle.std.proofs.Common.{rules}
use Rattle.topuivahe.specs.Meanings.{AtHome, words_spec}
use Rattle.topuivahe.proofs.Gathered.{filtered_below}
use Rattle.topuivahe.proofs.members.SpecificationWords.own.Goals as goal

pub returns : goal.returns
returns c = filtered_below _ _ _ _ (AtHome (words_spec c.args.self) c.args.block) c.collect.ensures.ran (cc) c.filter.ensures.closure (λ x q k. search rules) (λ x q k. search rules)
