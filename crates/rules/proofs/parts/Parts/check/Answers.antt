use Rattle.rules.specs.Unsealed.{cyclic}
use Rattle.rules.proofs.SealedLaws.{sealed_or}
use Rattle.rules.proofs.parts.Parts.check.Goals as goal

pub returns-in-Some : goal.returns-in-Some
returns-in-Some c = cyclic c.in-Some.ensures

pub returns-in-None : goal.returns-in-None
returns-in-None c = sealed_or c.args.self.now c.drawn.ensures c.in-None.ensures c.check.result c.check.ensures
