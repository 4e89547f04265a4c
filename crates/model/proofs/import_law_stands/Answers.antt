use Rattle.model.proofs.import_law_stands.Goals as goal
use Rattle.model.proofs.TwoRound.{import_law}

pub returns : goal.returns
returns c = import_law
