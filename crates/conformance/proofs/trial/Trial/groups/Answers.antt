use Rattle.std.proofs.Common.{◌<◌, arith}
use Rattle.conformance.proofs.Grouping.{placing_more}
use Rattle.conformance.proofs.RunRanges.{copies_few}
use Rattle.conformance.proofs.trial.Trial.groups.Goals as goal

pub bounds-places-q : goal.bounds-places-q
bounds-places-q c = omega (arith, copies_few c.args.self)

pub offset_bounds-places-q : goal.offset_bounds-places-q
offset_bounds-places-q c = omega (arith, copies_few c.args.self)

pub loop-q-preserved : goal.loop-q-preserved
loop-q-preserved c =
    let h : c.loop-q.q < 512 = omega (arith, copies_few c.args.self) in
    placing_more c.loop-q.q c.place_of.result c.loop-q.invariant h c.place_of.ensures
