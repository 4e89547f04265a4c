use Rattle.std.proofs.Common.{arith}
use Rattle.conformance.proofs.RunRanges.{trial_falls}
use Rattle.conformance.proofs.Walking.{walked_none, walked_left, walked_right}
use Rattle.conformance.proofs.trial.Trial.meet.Goals as goal

pub loop-x-init : goal.loop-x-init
loop-x-init c = walked_none

pub loop-x-preserved-then-y-x : goal.loop-x-preserved-then-y-x
loop-x-preserved-then-y-x c = walked_left (trial_falls c.args.self) c.loop-x.invariant c.if-y-x.true c.parent-x.ensures

pub loop-x-preserved : goal.loop-x-preserved
loop-x-preserved c = walked_right (trial_falls c.args.self) c.loop-x.invariant (omega (arith, c.loop-x-test.true)) c.parent-y.ensures
