use Rattle.std.proofs.Common.{◌-◌}
use Rattle.formats.specs.RunFiles.{run_edges_of}
use Rattle.conformance.proofs.Halving.{Narrowed}
use Rattle.conformance.proofs.trial.Trial.listed.Given as goal

abbrev pub invariant-loop-low : goal.invariant-loop-low
invariant-loop-low l = Narrowed (run_edges_of l.self.run.bytes.now) l.self.run.tails l.self.run.heads l.u l.w l.low l.high

abbrev pub decreases-loop-low : goal.decreases-loop-low
decreases-loop-low l = l.high - l.low
