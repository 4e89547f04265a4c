use Rattle.std.proofs.Common.{◌≡◌, ◌+◌, length, sym, subst, arith}
use Rattle.graphs.specs.Graphs.{Graph}
use Rattle.rules.proofs.Links.{Linking, linking_put, linking_skip, linking_all}
use Rattle.rules.proofs.parts.Parts.links.Goals as goal
use Rattle.rules.proofs.parts.Parts.links.Goals.{then-has+then-has-2, else-has, else-has-via-then-has+else-has-2, else-has-via-else-has}

pub loop-edge-preserved : goal.loop-edge-preserved
loop-edge-preserved c =
    let es = c.args.self.now.edges.now in
    let row = c.args.row.now in
    let i = c.loop-edge.edge-index in
    elim c.if-has.branch [
      | then-has+then-has-2 w ↦
          subst (λ (g : Graph). Linking es row g (i + 1)) (sym w.graph-is)
          (linking_put es row c.loop-edge.graph w.add.new.self w.add-then-has-2.new.self i c.loop-edge.invariant
          (w.if-has.ensures.0 tt) (w.if-has-2.ensures.0 tt) w.add.ensures w.add-then-has-2.ensures)
      | else-has w ↦
          subst (λ (g : Graph). Linking es row g (i + 1)) (sym w.graph-is)
          (linking_skip es row c.loop-edge.graph i c.loop-edge.invariant
          (elim w.else-has.branch [
            | else-has-via-then-has+else-has-2 v ↦ λ h. v.if-has-2.ensures.1 h.1
            | else-has-via-else-has v ↦ λ h. v.if-has.ensures.1 h.0
          ]))
    ]

pub returns : goal.returns
returns c =
    let es = c.args.self.now.edges.now in
    let e : c.loop-edge.edge-index ≡ length es = omega arith in
    linking_all es c.args.row.now c.loop-edge.graph c.loop-edge.edge-index e c.loop-edge.invariant
