use Rattle.schemes.proofs.Counting.{tally_law}
use Rattle.schemes.proofs.laws.tally_law_stands.Goals as goal

pub returns : goal.returns
returns c = tally_law
