use Rattle.std.proofs.Common.{arith}
use Rattle.formats.specs.RunFiles.{run_edges_of}
use Rattle.conformance.proofs.Halving.{narrowed_low, narrowed_high, narrowed_done}
use Rattle.conformance.proofs.trial.Trial.listed.Goals as goal

pub loop-low-preserved-then-comes_before : goal.loop-low-preserved-then-comes_before
loop-low-preserved-then-comes_before c =
    let f = c.args.self.run in
    narrowed_low (run_edges_of f.bytes.now) f.tails f.heads c.args.u c.args.w _ c.loop-low.invariant (omega arith) (omega arith) (c.if-comes_before.ensures.0 tt)

pub loop-low-preserved : goal.loop-low-preserved
loop-low-preserved c =
    let f = c.args.self.run in
    narrowed_high (run_edges_of f.bytes.now) f.tails f.heads c.args.u c.args.w _ c.loop-low.invariant (omega arith) (omega arith) c.if-comes_before.ensures.1

pub returns : goal.returns
returns c =
    let f = c.args.self.run in
    narrowed_done (run_edges_of f.bytes.now) f.tails f.heads c.args.u c.args.w c.loop-low.invariant c.loop-low-test.false c.stands_at.ensures
