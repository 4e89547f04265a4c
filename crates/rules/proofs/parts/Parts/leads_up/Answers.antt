use Rattle.std.proofs.Common.{◌<◌, ◌≤◌, arith}
use Rattle.rules.proofs.Ranges.{falls_of}
use Rattle.rules.proofs.Walk.{walk_on, walk_ends}
use Rattle.rules.proofs.parts.Parts.leads_up.Goals as goal

pub loop-at-preserved : goal.loop-at-preserved
loop-at-preserved c =
    let l : c.args.j < c.loop-at.at = omega arith in
    (omega (arith, (c.args.self.now.nested c.loop-at.at (omega arith) c.loop-at.invariant.0).0, c.loop-at.invariant.0), walk_on l c.loop-at.invariant.1)

pub returns : goal.returns
returns c =
    let p = c.args.self.now in
    let l : c.loop-at.at ≤ c.args.j = omega arith in
    walk_ends (falls_of p.nests.now p.rooted p.nested) l c.loop-at.invariant.1
