use Rattle.std.proofs.Common.{◌≡◌}
use Rattle.formats.specs.Sections.{section}
use Rattle.formats.specs.SpecFiles.{n_of, m_of, b_of, edges_from, vertices_from, nests_from, ends_from}
use Rattle.formats.specs.Specifications.{made_edge, made_vertex, made_nest, made_ends}
use Rattle.records.specs.Tables.{kept}
use Rattle.formats.proofs.Rows.{rows_as}
use Rattle.formats.proofs.Stated.{stated_sized, stated_edges, stated_homes, stated_whole, stated_nests, stated_ends}
use Rattle.formats.proofs.spec_file.SpecFile.specification.Goals as goal

pub invariant_of-result : goal.invariant_of-result
invariant_of-result c =
    let bytes = c.args.self.bytes.now in
    let framed = c.args.self.framed in
    let inside = c.requires in
    let es : kept c.table-edges.result ≡ section made_edge bytes (edges_from bytes) (m_of bytes) = rows_as made_edge c.table-edges.ensures c.edges.ensures in
    let vs : kept c.table-vertices.result ≡ section made_vertex bytes (vertices_from bytes) (n_of bytes) = rows_as made_vertex c.table-vertices.ensures c.vertices.ensures in
    let ns : kept c.table-nests.result ≡ section made_nest bytes (nests_from bytes) (b_of bytes) = rows_as made_nest c.table-nests.ensures c.nests.ensures in
    let xs : kept c.table-ends.result ≡ section made_ends bytes (ends_from bytes) (b_of bytes) = rows_as made_ends c.table-ends.ensures c.ends.ensures in
    record {
      sized = stated_sized framed inside es vs ns xs;
      edged = stated_edges framed inside es vs ns xs;
      housed = stated_homes framed inside es vs ns xs;
      rooted = stated_whole framed inside es vs ns xs;
      nested = stated_nests framed inside es vs ns xs;
      ended = stated_ends framed inside es vs ns xs;
    }
