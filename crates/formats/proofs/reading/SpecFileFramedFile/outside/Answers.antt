use Rattle.formats.proofs.Ranges.{inside_as, lowest_as, lowest_edges, lowest_vertices, lowest_nests}
use Rattle.formats.proofs.reading.SpecFileFramedFile.outside.Goals as goal

pub returns-in-Some : goal.returns-in-Some
returns-in-Some c = lowest_edges c.args.self.bytes.now (lowest_as c.bounds-bounds.ensures c.edges.ensures c.in-Some.ensures)

pub returns-in-Some-outside : goal.returns-in-Some-outside
returns-in-Some-outside c =
    let same = c.bounds-bounds.ensures in
    lowest_vertices c.args.self.bytes.now (inside_as same c.edges.ensures c.in_default.ensures) (lowest_as same c.vertices.ensures c.in-Some-outside.ensures)

pub returns-in-Some-outside-2 : goal.returns-in-Some-outside-2
returns-in-Some-outside-2 c =
    let same = c.bounds-bounds.ensures in
    lowest_nests c.args.self.bytes.now (inside_as same c.edges.ensures c.in_default.ensures) (inside_as same c.vertices.ensures c.in_default-outside.ensures)
    (lowest_as same c.nests.ensures c.in-Some-outside-2.ensures)
