use Rattle.std.proofs.Common.{arith}
use Rattle.conformance.specs.Trials.{trial_run}
use Rattle.conformance.proofs.Marking.{pair_fits, marking_repeats, marking_more, marking_all}
use Rattle.conformance.proofs.trial.Trial.marked.Goals as goal

pub returns-then-mark : goal.returns-then-mark
returns-then-mark c = marking_repeats (trial_run c.args.self) c.loop-u.grid c.loop-u.u c.loop-u.invariant (omega arith) (c.if-mark.ensures.was.0 tt)

pub loop-u-preserved : goal.loop-u-preserved
loop-u-preserved c =
    marking_more (trial_run c.args.self) c.loop-u.grid c.loop-u.u c.loop-u.invariant c.mark.new.grid
    (pair_fits c.args.self c.requires c.loop-u.u (omega arith)) c.if-mark.ensures.was.1 c.mark.ensures.marks

pub returns : goal.returns
returns c = marking_all (trial_run c.args.self) c.loop-u.grid c.loop-u.u c.loop-u.invariant (omega arith)
