use Rattle.std.proofs.Common.{◌+◌}
use Rattle.conformance.specs.Trials.{trial_run}
use Rattle.conformance.proofs.Walking.{Walked}
use Rattle.conformance.proofs.trial.Trial.meet.Given as goal

abbrev pub invariant-loop-x : goal.invariant-loop-x
invariant-loop-x l = Walked (trial_run l.self).parent l.i l.j l.x l.y l.left l.right

abbrev pub decreases-loop-x : goal.decreases-loop-x
decreases-loop-x l = l.x + l.y
