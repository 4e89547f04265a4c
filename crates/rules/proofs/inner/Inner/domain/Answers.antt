use Rattle.rules.proofs.InDomain.{in_row}
use Rattle.rules.proofs.inner.Inner.domain.Goals as goal

pub returns : goal.returns
returns c = let b = c.args.self.now in in_row b.drawn.parts b.number c.domain.result b.inside.0 c.domain.ensures
