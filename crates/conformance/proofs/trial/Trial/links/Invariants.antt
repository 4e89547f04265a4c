use Rattle.conformance.specs.Links.{LinkedBelow}
use Rattle.conformance.specs.Trials.{trial_spec}
use Rattle.conformance.proofs.trial.Trial.links.Given as goal

abbrev pub invariant-loop-k : goal.invariant-loop-k
invariant-loop-k l = LinkedBelow (trial_spec l.self) l.k l.links
