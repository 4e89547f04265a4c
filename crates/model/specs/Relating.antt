-- When one step led to another, told from contexts and origins alone. Between a run's edges and its labels stands this relation: the
-- laws tie it to the paths of the run on one side and to the question rule on the other.
use Rattle.std.specs.Prelude.{◌≡◌, ℕ, ◌<◌, ◌≢◌, ◌⊎◌}
use Rattle.model.specs.Paths.{Path*}
use Rattle.model.specs.Forests.{Split}
use Rattle.model.specs.Specifications.{Spec, Edge}
use Rattle.model.specs.Runs.{Run}

-- copies i and j lie in, or are, two different copies s and t of one group
pub record Apart (r : Run) (i j : ℕ) : Type 0 where
  pub s : ℕ
  pub t : ℕ
  pub split : Split r.parent i j s t
  pub same_block : r.block s ≡ r.block t
  pub differ : s ≢ t

-- copies i and j lie in, or are, two copies of one group of a loop, i in the earlier one
pub record Earlier (sp : Spec) (r : Run) (i j : ℕ) : Type 0 where
  pub es : ℕ
  pub et : ℕ
  pub esplit : Split r.parent i j es et
  pub eblock : r.block es ≡ r.block et
  pub eless : es < et
  pub eloop : sp.kind (r.block es) ≡ 2

-- Step u led to step w: u's context lies in an earlier turn of a loop than w's, or the contexts are not apart and in the specification
-- a path leads from u's origin to w's. So what ran in two copies of one fork did not lead to one another.
abbrev pub Rel : Spec → Run → ℕ → ℕ → Type 0
Rel s r u w = Earlier s r (r.context u) (r.context w)
    ⊎ ((¬ (Apart r (r.context u) (r.context w))) × Path* (Edge s) (r.origin u) (r.origin w))
