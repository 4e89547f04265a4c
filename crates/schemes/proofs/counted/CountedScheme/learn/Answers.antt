use Rattle.std.proofs.Common.{refl}
use Rattle.schemes.proofs.counted.CountedScheme.learn.Goals as goal

pub returns : goal.returns
returns g c = record { own = c.learn.ensures c.args.self.now.tally; tally_stays = refl }
