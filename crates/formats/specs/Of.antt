-- The specification of the subject that a value of the code stands for.
use Rattle.model.specs.Specifications.{Spec}
use Rattle.std.specs.Prelude.{[], ◌∷◌}
use Rattle.formats.specs.Specifications.{no_vertex, no_nest, no_ends, spec_from}
use Rattle.records.specs.Tables.{kept}
use Rattle.formats.specs.declared.specification.Specification.{Specification}

abbrev pub spec_of : Specification → Spec
spec_of s = spec_from (kept s.edges) (kept s.vertices) (kept s.nests) (kept s.ends)

-- the trivial specification: one vertex, no edge, one block
abbrev pub trivial : Spec
trivial = spec_from [] (no_vertex ∷ []) (no_nest ∷ []) (no_ends ∷ [])
