use Rattle.std.proofs.Common.{below_more}
use Rattle.nesting.proofs.copies.Copies.lacking.Goals as goal

pub loop-i-preserved : goal.loop-i-preserved
loop-i-preserved c = below_more _ _ c.loop-i.invariant c.in_default.ensures
