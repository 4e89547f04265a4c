use Rattle.formats.proofs.Ranges.{inside_as, lowest_as}
use Rattle.formats.proofs.RunRanges.{lowest_copies, lowest_steps}
use Rattle.formats.proofs.framing.FramedRunFramedFile.outside.Goals as goal

pub returns-in-Some : goal.returns-in-Some
returns-in-Some c = lowest_copies c.args.self.vertices c.args.self.blocks c.args.self.bytes.now (lowest_as c.bounds-bounds.ensures c.copies.ensures c.in-Some.ensures)

pub returns-in-Some-outside : goal.returns-in-Some-outside
returns-in-Some-outside c =
    let same = c.bounds-bounds.ensures in
    lowest_steps c.args.self.vertices c.args.self.blocks c.args.self.bytes.now (inside_as same c.copies.ensures c.in_default.ensures) (lowest_as same c.steps.ensures c.in-Some-outside.ensures)
