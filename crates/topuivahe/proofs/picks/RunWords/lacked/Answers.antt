use Rattle.std.proofs.Common.{rules}
use Rattle.topuivahe.specs.Picks.{Lacked}
use Rattle.topuivahe.proofs.Gathered.{filtered_below}
use Rattle.topuivahe.proofs.picks.RunWords.lacked.Goals as goal

pub returns : goal.returns
returns c = filtered_below _ _ _ _ (Lacked c.args.self.opened c.args.copy) c.collect.ensures.ran (cc) c.filter.ensures.closure (λ x q k. search rules) (λ x q k. search rules)
