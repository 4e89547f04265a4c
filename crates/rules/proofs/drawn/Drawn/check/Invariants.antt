use Rattle.rules.specs.Blocks.{drawn_spec}
use Rattle.rules.specs.Unsealed.{PassedBelow}
use Rattle.rules.proofs.drawn.Drawn.check.Given as goal

abbrev pub invariant-loop-number : goal.invariant-loop-number
invariant-loop-number l = PassedBelow (drawn_spec l.self) l.number
