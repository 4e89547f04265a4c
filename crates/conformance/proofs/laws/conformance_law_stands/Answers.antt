use Rattle.conformance.proofs.Decided.{conformance_law}
use Rattle.conformance.proofs.laws.conformance_law_stands.Goals as goal

pub returns : goal.returns
returns c = conformance_law
