use Rattle.graphs.specs.Rows.{Holds}
use Rattle.rules.specs.Parts.{tail_at, head_at}
use Rattle.schemes.proofs.Walks.{pass_mark, pass_skip}
use Rattle.schemes.proofs.walk.pass.Goals as goal
use Rattle.schemes.proofs.walk.pass.Goals.{then-has+then-not-has, else-has, else-has-via-then-has+else-not-has, else-has-via-else-has}

pub loop-edge-preserved : goal.loop-edge-preserved
loop-edge-preserved c =
    let es = c.args.edges.now in
    let first = c.args.seen.now in
    let seen = c.loop-edge.seen in
    let marked = c.loop-edge.marked in
    let i = c.loop-edge.edge-index in
    let lt = c.loop-edge-test.true in
    let inv = c.loop-edge.invariant in
    elim c.if-has.branch [
      | then-has+then-not-has w ↦
          rw (w.seen-is, w.marked-is)
          (pass_mark es first seen marked i lt inv w.insert.new.self (c.requires i lt).1 (w.if-has.ensures.0 tt) w.if-not-has.ensures.1 w.insert.ensures)
      | else-has w ↦
          let met : Holds seen (tail_at es i) → Holds seen (head_at es i) = elim w.else-has.branch [
            | else-has-via-then-has+else-not-has v ↦ λ _. v.if-not-has.ensures.0 tt
            | else-has-via-else-has v ↦ λ h. absurd (v.if-has.ensures.1 h)
          ] in
          rw (w.seen-is, w.marked-is) (pass_skip es first seen marked i lt inv met)
    ]
