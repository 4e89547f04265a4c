-- Specification files: where their numbers stand, what they state, and why one is refused.
use Rattle.std.specs.Prelude.{◌≡◌, ℕ, ◌+◌, ◌*◌, List}
use Rattle.records.specs.Kinds.{spec_edge_kind, vertex_kind, nest_kind, ends_kind}
use Rattle.formats.specs.Files.{Format, FramedOf, AcceptedOf, RefusedOf}
use Rattle.formats.specs.Sections.{Inside, Outside, section}
use Rattle.formats.specs.Specifications.{made_edge, made_vertex, made_nest, made_ends}
use Rattle.records.specs.Tables.{kept}
use Rattle.formats.specs.Words.{word}
use Rattle.formats.specs.declared.faults.Fault.{Fault}
use Rattle.records.specs.declared.record.Bounds.{Bounds}
use Rattle.formats.specs.declared.specification.Specification.{Specification}

-- the three sizes: n vertices, m edges, b blocks
abbrev pub n_of : List ℕ → ℕ
n_of bytes = word bytes 0

abbrev pub m_of : List ℕ → ℕ
m_of bytes = word bytes 2

abbrev pub b_of : List ℕ → ℕ
b_of bytes = word bytes 4

-- where the four sections start, after the sizes: edges, vertices, nests, ends
abbrev pub edges_from : List ℕ → ℕ
edges_from bytes = 6

abbrev pub vertices_from : List ℕ → ℕ
vertices_from bytes = 6 + 4 * m_of bytes

abbrev pub nests_from : List ℕ → ℕ
nests_from bytes = 6 + 4 * (m_of bytes + n_of bytes)

abbrev pub ends_from : List ℕ → ℕ
ends_from bytes = 6 + 4 * (m_of bytes + n_of bytes + b_of bytes)

-- how long the sizes say that the file is
abbrev pub spec_length : List ℕ → ℕ
spec_length bytes = 6 + 4 * (m_of bytes + n_of bytes + 2 * b_of bytes)

-- vertices lie below n and blocks below b
abbrev pub spec_bounds : List ℕ → Bounds
spec_bounds bytes = record { vertices = n_of bytes; blocks = b_of bytes; copies = 0; steps = 0 }

-- every number of the four sections lies in its range
pub record AllInside (bytes : List ℕ) : Type 0 where
  pub edges_inside : Inside spec_edge_kind (spec_bounds bytes) bytes (edges_from bytes) (m_of bytes)
  pub vertices_inside : Inside vertex_kind (spec_bounds bytes) bytes (vertices_from bytes) (n_of bytes)
  pub nests_inside : Inside nest_kind (spec_bounds bytes) bytes (nests_from bytes) (b_of bytes)
  pub ends_inside : Inside ends_kind (spec_bounds bytes) bytes (ends_from bytes) (b_of bytes)

-- p is the byte position of a number outside its range, in any section
pub data NumberOutside (bytes : List ℕ) (p : ℕ) : Type 0 where
  of_edges : Outside spec_edge_kind (spec_bounds bytes) bytes (edges_from bytes) (m_of bytes) p → NumberOutside bytes p
  of_vertices : Outside vertex_kind (spec_bounds bytes) bytes (vertices_from bytes) (n_of bytes) p → NumberOutside bytes p
  of_nests : Outside nest_kind (spec_bounds bytes) bytes (nests_from bytes) (b_of bytes) p → NumberOutside bytes p
  of_ends : Outside ends_kind (spec_bounds bytes) bytes (ends_from bytes) (b_of bytes) p → NumberOutside bytes p

-- the format of specification files: sizes n, m, b
abbrev pub spec_format : Format
spec_format = record {
  first = vertex_kind;
  second = spec_edge_kind;
  third = nest_kind;
  long = spec_length;
  AllIn = AllInside;
  OutAt = NumberOutside;
  base = edges_from;
  count = m_of;
}

-- sizes and length are right; the file is accepted; it is refused with this fault
abbrev pub Framed : List ℕ → Type 0
Framed bytes = FramedOf spec_format bytes

abbrev pub Accepted : List ℕ → Type 0
Accepted bytes = AcceptedOf spec_format bytes

abbrev pub Refused : List ℕ → Fault → Type 0
Refused bytes f = RefusedOf spec_format bytes f

-- the specification is the one whose numbers stand in the file
pub record States (bytes : List ℕ) (s : Specification) : Type 0 where
  pub states_edges : kept s.edges ≡ section made_edge bytes (edges_from bytes) (m_of bytes)
  pub states_vertices : kept s.vertices ≡ section made_vertex bytes (vertices_from bytes) (n_of bytes)
  pub states_nests : kept s.nests ≡ section made_nest bytes (nests_from bytes) (b_of bytes)
  pub states_ends : kept s.ends ≡ section made_ends bytes (ends_from bytes) (b_of bytes)
