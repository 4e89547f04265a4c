use Rattle.conformance.specs.Deriving.{AtEnd}
use Rattle.conformance.specs.Trials.{trial_run, trial_spec}
use Rattle.conformance.proofs.Climbing.{Climbed}
use Rattle.conformance.proofs.derivation.Derivation.all_at_end.Given as goal

abbrev pub invariant-loop-q : goal.invariant-loop-q
invariant-loop-q l = Climbed (trial_spec l.self.trial) (trial_run l.self.trial) (AtEnd (trial_run l.self.trial) l.which) l.i l.d l.q

abbrev pub decreases-loop-q : goal.decreases-loop-q
decreases-loop-q l = l.q
