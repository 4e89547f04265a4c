use Rattle.rules.proofs.Decided.{sealing_law}
use Rattle.rules.proofs.laws.sealing_law_stands.Goals as goal

pub returns : goal.returns
returns c = sealing_law
