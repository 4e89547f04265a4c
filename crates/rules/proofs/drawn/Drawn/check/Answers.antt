use Rattle.rules.specs.Blocks.{drawn_spec}
use Rattle.rules.specs.Unsealed.{wrong_ends}
use Rattle.rules.proofs.SealedLaws.{passed_more}
use Rattle.rules.proofs.drawn.Drawn.check.Goals as goal

pub returns-then-not-whole_ends : goal.returns-then-not-whole_ends
returns-then-not-whole_ends c a = wrong_ends a c.if-not-whole_ends.ensures.1

pub loop-number-preserved : goal.loop-number-preserved
loop-number-preserved c = passed_more (drawn_spec c.args.self.now) c.loop-number.number c.loop-number.invariant c.in_ok-check.ensures
