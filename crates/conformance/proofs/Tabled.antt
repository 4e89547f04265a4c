-- What the tables of a specification say of their sizes.
use Rattle.std.proofs.Common.{ℕ, ◌<◌, ◌≤◌, refl, arith}
use Rattle.formats.specs.Of.{spec_of}
use Rattle.formats.specs.declared.specification.Specification.{Specification}
use Rattle.records.specs.Tables.{kept}
use Rattle.graphs.specs.Rows.{vertices}
use Rattle.rules.proofs.PartsOf.{few_of}

-- a specification has no more vertices than a row has places
pub vertices_few : (s : Specification) → (spec_of s).n ≤ vertices
vertices_few s = few_of s.vertices.items (kept s.vertices) s.vertices.len 64 refl s.vertices.fits

-- so sources and sinks have a place in a row
pub ends_few : (s : Specification) (k : ℕ) → k < (spec_of s).b → ((spec_of s).source k < vertices) × ((spec_of s).sink k < vertices)
ends_few s k h =
    let e = s.ended k (omega (arith, s.sized.2)) in
    (omega (arith, e.0, vertices_few s), omega (arith, e.1, vertices_few s))
