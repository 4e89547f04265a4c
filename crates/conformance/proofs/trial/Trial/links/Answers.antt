use Rattle.std.proofs.Common.{◌+◌, ◌<◌, sym, subst, arith}
use Rattle.conformance.specs.Links.{LinkedBelow}
use Rattle.conformance.specs.Trials.{trial_spec}
use Rattle.conformance.proofs.Linking.{linked_skip, linked_turn}
use Rattle.conformance.proofs.Tabled.{ends_few}
use Rattle.conformance.proofs.trial.Trial.links.Goals as goal
use Rattle.conformance.proofs.trial.Trial.links.Goals.{then-is_loop, else-is_loop}

pub loop-k-preserved : goal.loop-k-preserved
loop-k-preserved c =
    let t = c.args.self in
    let s = trial_spec t in
    let k = c.loop-k.k in
    let l : k < s.b = omega (arith, c.blocks-k-end.ensures, c.loop-k-test.true) in
    let ends = ends_few t.specification.now k l in
    elim c.if-is_loop.branch [
      | then-is_loop w ↦ subst (LinkedBelow s (k + 1)) (sym w.links-is)
          (linked_turn s c.loop-k.links w.add.new.self k (omega arith) (w.if-is_loop.ensures.0 tt) w.sink.ensures w.source.ensures ends.1 ends.0 w.add.ensures c.loop-k.invariant)
      | else-is_loop w ↦ subst (LinkedBelow s (k + 1)) (sym w.links-is) (linked_skip s c.loop-k.links k w.if-is_loop.ensures.1 c.loop-k.invariant)
    ]
