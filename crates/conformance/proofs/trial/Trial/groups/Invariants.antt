use Rattle.conformance.specs.Trials.{trial_run}
use Rattle.conformance.proofs.Grouping.{Placing}
use Rattle.conformance.proofs.trial.Trial.groups.Given as goal

abbrev pub invariant-loop-q : goal.invariant-loop-q
invariant-loop-q l = Placing 512 (trial_run l.self) l.places l.q
