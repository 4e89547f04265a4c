-- What a walker means is the reach of the specification that it keeps.
use Rattle.std.proofs.Common.{ℕ, ◌<◌, T, ◌↔◌, length, subst}
use Rattle.model.specs.Paths.{Path*}
use Rattle.model.specs.Specifications.{Edge}
use Rattle.records.specs.Tables.{kept}
use Rattle.formats.specs.Of.{spec_of}
use Rattle.formats.specs.declared.specification.Specification.{Specification}
use Rattle.rules.proofs.Ranges.{listed_at}
use Rattle.schemes.specs.Walkers.{reach_test}
use Rattle.schemes.proofs.Leading.{reach_law}

pub kept_reach : (spec : Specification) (x y : ℕ) → T (reach_test (spec_of spec) x y) ↔ Path* (Edge (spec_of spec)) x y
kept_reach spec = reach_law (spec_of spec) (λ a b t.
    let w = listed_at (kept spec.edges) a b t in
    subst (λ (v : ℕ). v < length (kept spec.vertices)) w.2 (spec.edged w.0 w.1).0)
