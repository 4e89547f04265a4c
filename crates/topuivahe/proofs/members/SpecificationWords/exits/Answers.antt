use Rattle.std.proofs.Common.{rules}
use Rattle.topuivahe.specs.Meanings.{NotLeft, words_spec}
use Rattle.topuivahe.proofs.Gathered.{filtered_below}
use Rattle.topuivahe.proofs.members.SpecificationWords.exits.Goals as goal

pub returns : goal.returns
returns c = filtered_below _ _ _ _ (NotLeft (words_spec c.args.self)) c.collect.ensures.ran (cc) c.filter.ensures.closure (λ x q k. search rules) (λ x q k. search rules)
