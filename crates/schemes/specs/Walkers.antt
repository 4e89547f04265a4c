-- What a walker means.
use Rattle.std.specs.Prelude.{ℕ, zero, suc, Bool, ◌&&◌, ◌||◌, ◌==◌}
use Rattle.model.specs.Specifications.{Spec}
use Rattle.formats.specs.Of.{spec_of}
use Rattle.schemes.specs.Counted.{counted_meaning}
use Rattle.schemes.specs.Meanings.{Meaning}
use Rattle.schemes.specs.declared.counted.Counted.{Counted}
use Rattle.schemes.specs.declared.walker.KeptSpecification.{KeptSpecification}

-- whether one or more edges lead from x to y, with only vertices below k between them
unfoldable pub leads : (ℕ → ℕ → Bool) → ℕ → ℕ → ℕ → Bool
leads edge zero x y = edge x y
leads edge (suc k) x y = leads edge k x y || (leads edge k x k && leads edge k k y)

-- whether zero or more edges lead from x to y
abbrev pub reach_test : Spec → ℕ → ℕ → Bool
reach_test s x y = x == y || leads s.edge s.n x y

-- the vertices of the specification that is kept, and which of them reach which
abbrev pub kept_count : KeptSpecification → ℕ
kept_count k = (spec_of k.specification).n

abbrev pub kept_test : KeptSpecification → ℕ → ℕ → Bool
kept_test k = reach_test (spec_of k.specification)

abbrev pub walker_meaning : Counted KeptSpecification → Meaning
walker_meaning = counted_meaning kept_count kept_test
