use Rattle.std.proofs.Common.{◌<◌, arith}
use Rattle.rules.specs.Parts.{head_at, tail_at}
use Rattle.rules.proofs.Marking.{marks_more}
use Rattle.rules.proofs.parts.Parts.drawn.Goals as goal

pub loop-edge-preserved : goal.loop-edge-preserved
loop-edge-preserved c =
    let p = c.args.self.now in
    let es = p.edges.now in
    let i = c.loop-edge.edge-index in
    let within = p.edged i c.loop-edge-test.true in
    let head : head_at es i < 64 = omega (arith, within.1, p.few) in
    let tail : tail_at es i < 64 = omega (arith, within.0, p.few) in (
      marks_more (λ e. e.head) es c.loop-edge.heads c.insert.new.self i c.loop-edge.invariant.0 c.loop-edge-test.true head c.insert.ensures,
      marks_more (λ e. e.tail) es c.loop-edge.tails c.insert-in-loop-edge.new.self i c.loop-edge.invariant.1 c.loop-edge-test.true tail c.insert-in-loop-edge.ensures,
    )
