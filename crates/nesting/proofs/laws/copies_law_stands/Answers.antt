use Rattle.nesting.proofs.Decided.{copies_law}
use Rattle.nesting.proofs.laws.copies_law_stands.Goals as goal

pub returns : goal.returns
returns c = copies_law
