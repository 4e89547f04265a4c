use Rattle.conformance.proofs.Climbing.{climbed_fails, climbed_pos, climbed_less, climbed_more, climbed_all}
use Rattle.conformance.proofs.RunRanges.{trial_falls}
use Rattle.conformance.proofs.derivation.Derivation.all_at_end.Goals as goal

pub at_end-requires : goal.at_end-requires
at_end-requires c = (climbed_pos (trial_falls c.args.self.now.trial) c.loop-q.invariant c.loop-q-test.true, c.loop-q.invariant.is_copy)

pub returns-then-not-at_end : goal.returns-then-not-at_end
returns-then-not-at_end c = (λ t. absurd t, climbed_fails c.loop-q.invariant c.loop-q-test.true c.if-not-at_end.ensures.1)

pub loop-q-smaller : goal.loop-q-smaller
loop-q-smaller c = climbed_less (trial_falls c.args.self.now.trial) c.loop-q.invariant c.loop-q-test.true c.parent-q.ensures

pub loop-q-preserved : goal.loop-q-preserved
loop-q-preserved c =
    climbed_more (trial_falls c.args.self.now.trial) c.loop-q.invariant c.loop-q-test.true (c.if-not-at_end.ensures.0 tt) c.parent-q.ensures

pub returns : goal.returns
returns c = (λ _. climbed_all (trial_falls c.args.self.now.trial) c.loop-q.invariant c.loop-q-test.false, λ _. tt)
