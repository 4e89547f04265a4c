-- What a specification's four tables say, as a specification of the subject.
use Rattle.std.specs.Prelude.{◌≡◌, ℕ, ◌<◌, ◌≤◌, Bool, List, length, slice_index_or}
use Rattle.model.specs.Specifications.{Spec}
use Rattle.formats.specs.Pairs.{holds_pair}
use Rattle.records.specs.declared.kinds.SpecEdge.{SpecEdge}
use Rattle.records.specs.declared.kinds.Vertex.{Vertex}
use Rattle.records.specs.declared.kinds.Nest.{Nest}
use Rattle.records.specs.declared.kinds.Ends.{Ends}

-- records of zeros: what a list is read as beyond its end, and what the trivial specification holds
abbrev pub no_edge : SpecEdge
no_edge = record { tail = 0; head = 0 }

abbrev pub no_vertex : Vertex
no_vertex = record { home = 0; tool = 0 }

abbrev pub no_nest : Nest
no_nest = record { parent = 0; kind = 0 }

abbrev pub no_ends : Ends
no_ends = record { source = 0; sink = 0 }

-- a record of its two numbers
abbrev pub made_edge : ℕ → ℕ → SpecEdge
made_edge a b = record { tail = a; head = b }

abbrev pub made_vertex : ℕ → ℕ → Vertex
made_vertex a b = record { home = a; tool = b }

abbrev pub made_nest : ℕ → ℕ → Nest
made_nest a b = record { parent = a; kind = b }

abbrev pub made_ends : ℕ → ℕ → Ends
made_ends a b = record { source = a; sink = b }

-- the edge from x to y stands in the list
abbrev pub listed : List SpecEdge → ℕ → ℕ → Bool
listed es x y = holds_pair (λ e. e.tail) (λ e. e.head) es x y

-- the specification with these edges, vertices, nests and ends, each numbered by its place in the list
abbrev pub spec_from : List SpecEdge → List Vertex → List Nest → List Ends → Spec
spec_from es vs ns xs = record {
  n = length vs;
  b = length ns;
  edge = listed es;
  home = λ x. (slice_index_or vs x no_vertex).home;
  tool = λ x. (slice_index_or vs x no_vertex).tool;
  above = λ k. (slice_index_or ns k no_nest).parent;
  kind = λ k. (slice_index_or ns k no_nest).kind;
  source = λ k. (slice_index_or xs k no_ends).source;
  sink = λ k. (slice_index_or xs k no_ends).sink;
}

-- there is a vertex and a block, and each block has its ends
abbrev pub Sized : List Vertex → List Nest → List Ends → Type 0
Sized vs ns xs = (0 < length vs) × (0 < length ns) × (length xs ≡ length ns)

-- tails and heads are vertices
abbrev pub EdgesRanged : List SpecEdge → List Vertex → Type 0
EdgesRanged es vs = (i : ℕ) → i < length es → ((slice_index_or es i no_edge).tail < length vs) × ((slice_index_or es i no_edge).head < length vs)

-- homes are blocks
abbrev pub HomesRanged : List Vertex → List Nest → Type 0
HomesRanged vs ns = (x : ℕ) → x < length vs → (slice_index_or vs x no_vertex).home < length ns

-- block 0 has parent 0 and kind 0
abbrev pub WholeRanged : List Nest → Type 0
WholeRanged ns = ((slice_index_or ns 0 no_nest).parent ≡ 0) × ((slice_index_or ns 0 no_nest).kind ≡ 0)

-- any other block has a parent below it, and kind 1 or 2
abbrev pub NestsRanged : List Nest → Type 0
NestsRanged ns = (k : ℕ) → 0 < k → k < length ns → ((slice_index_or ns k no_nest).parent < k) × (1 ≤ (slice_index_or ns k no_nest).kind) × ((slice_index_or ns k no_nest).kind ≤ 2)

-- sources and sinks are vertices
abbrev pub EndsRanged : List Ends → List Vertex → Type 0
EndsRanged xs vs = (k : ℕ) → k < length xs → ((slice_index_or xs k no_ends).source < length vs) × ((slice_index_or xs k no_ends).sink < length vs)
