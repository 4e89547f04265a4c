use Rattle.std.proofs.Common.{◌≡◌, ℕ, ◌<◌, length, subst, arith}
use Rattle.rules.specs.Parts.{head_at, tail_at}
use Rattle.rules.proofs.Edges.{HasFirst, first_more, first_all}
use Rattle.rules.proofs.parts.Parts.graph.Goals as goal

pub loop-edge-preserved : goal.loop-edge-preserved
loop-edge-preserved c =
    let p = c.args.self.now in
    let i = c.loop-edge.edge-index in
    let e = p.edged i c.loop-edge-test.true in
    let t : tail_at p.edges.now i < 64 = omega (arith, e.0, p.few) in
    let h : head_at p.edges.now i < 64 = omega (arith, e.1, p.few) in
    first_more p.edges.now c.loop-edge.graph c.add.new.self i c.loop-edge.invariant t h c.add.ensures

pub returns : goal.returns
returns c =
    let es = c.args.self.now.edges.now in
    let e : c.loop-edge.edge-index ≡ length es = omega arith in
    first_all es c.loop-edge.graph (subst (λ (n : ℕ). HasFirst es c.loop-edge.graph n) e c.loop-edge.invariant)
