use Rattle.std.proofs.Common.{rules}
use Rattle.topuivahe.specs.Picks.{Twin}
use Rattle.topuivahe.proofs.Gathered.{filtered_below}
use Rattle.topuivahe.proofs.picks.RunWords.twins.Goals as goal

pub returns : goal.returns
returns c = filtered_below _ _ _ _ (Twin c.args.self.opened c.args.step) c.collect.ensures.ran (cc) c.filter.ensures.closure (λ x q k. search rules) (λ x q k. search rules)
