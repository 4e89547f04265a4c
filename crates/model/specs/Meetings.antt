-- Where the chains of two copies meet, and what a derived edge is, told from there.
use Rattle.std.specs.Prelude.{◌≡◌, ℕ, ◌<◌, ◌≢◌, ◌⊎◌}
use Rattle.model.specs.Forests.{Chain}
use Rattle.model.specs.Specifications.{Spec, Edge}
use Rattle.model.specs.Runs.{Run, Next, Lasts, Firsts}

-- m is the lowest in the chains of both i and j. a is the child of m in the chain of i, or m itself where i is m; b likewise in the chain
-- of j.
pub record Meets (p : ℕ → ℕ) (i j m a b : ℕ) : Type 0 where
  pub from_left : Chain p i a
  pub from_right : Chain p j b
  pub left_end : ((i ≡ m) × (a ≡ m)) ⊎ ((0 < a) × (p a ≡ m))
  pub right_end : ((j ≡ m) × (b ≡ m)) ⊎ ((0 < b) × (p b ≡ m))
  pub lowest : (k : ℕ) → Chain p i k → Chain p j k → Chain p m k

-- A derived edge of the first kind, told from where the chains of the two contexts meet. The specification has the edge between the origins.
-- The chains do not come to the meeting by two copies of one group. Below it, every loop copy in u's chain is the last of its group, and
-- every loop copy in w's chain the first.
pub record PlainAt (s : Spec) (r : Run) (u w m a b : ℕ) : Type 0 where
  pub spec_edge : Edge s (r.origin u) (r.origin w)
  pub no_group : ¬ ((a ≢ m) × (b ≢ m) × (r.block a ≡ r.block b))
  pub lasts_left : Lasts s r (r.context u) m
  pub firsts_right : Firsts s r (r.context w) m

-- A derived edge of the second kind, told from the meeting: the chains come to it by a copy of a loop and the next copy of its group. u's
-- origin is the loop's sink and w's its source. Below those two copies, loop copies are last in u's chain and first in w's.
pub record BackAt (s : Spec) (r : Run) (u w m a b : ℕ) : Type 0 where
  pub under_left : a ≢ m
  pub under_right : b ≢ m
  pub turn_loop : s.kind (r.block a) ≡ 2
  pub turn_sink : r.origin u ≡ s.sink (r.block a)
  pub turn_source : r.origin w ≡ s.source (r.block a)
  pub turns : Next r a b
  pub lasts_left : Lasts s r (r.context u) a
  pub firsts_right : Firsts s r (r.context w) b
