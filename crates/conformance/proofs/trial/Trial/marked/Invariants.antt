use Rattle.conformance.specs.Trials.{trial_run}
use Rattle.conformance.proofs.Marking.{Marking}
use Rattle.conformance.proofs.trial.Trial.marked.Given as goal

abbrev pub invariant-loop-u : goal.invariant-loop-u
invariant-loop-u l = Marking (trial_run l.self) l.grid l.u
