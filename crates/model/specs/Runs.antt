-- A run of a specification: copies of its blocks, steps and edges; which edges are derived, and what it takes for a run to conform.
use Rattle.std.specs.Prelude.{◌≡◌, ℕ, ◌<◌, ◌≤◌, Bool, T, ◌≢◌, ◌⊎◌, ◌↔◌}
use Rattle.model.specs.Forests.{Chain, Depth, Falls}
use Rattle.model.specs.Specifications.{Spec, Edge, Domain}

-- c copies and v steps, each numbered from 0. A copy is one execution of a block; copy 0 is the execution of the whole, and every other
-- copy has a parent, the copy in which it took place. A step is one execution of a vertex, its origin, in a copy, its context.
-- `listed` says which edges between steps the run lists.
pub record Run : Type 0 where
  pub c : ℕ
  pub v : ℕ
  pub parent : ℕ → ℕ
  pub block : ℕ → ℕ
  pub context : ℕ → ℕ
  pub origin : ℕ → ℕ
  pub listed : ℕ → ℕ → Bool

-- Copy j is in the group of copy i, i above 0. A group is all copies with one parent and one block; copy 0 is in none.
pub record Mate (r : Run) (i j : ℕ) : Type 0 where
  pub exists : j < r.c
  pub not_zero : 0 < j
  pub one_parent : r.parent j ≡ r.parent i
  pub one_block : r.block j ≡ r.block i

-- A loop's group ran in ascending number: q is the first of its group
abbrev pub First : Run → ℕ → Type 0
First r q = (j : ℕ) → Mate r q j → q ≤ j

-- q is the last of its group
abbrev pub Last : Run → ℕ → Type 0
Last r q = (j : ℕ) → Mate r q j → j ≤ q

-- q' is the next copy after q in its group
pub record Next (r : Run) (q q' : ℕ) : Type 0 where
  pub mate : Mate r q q'
  pub later : q < q'
  pub none_between : (j : ℕ) → Mate r q j → q < j → q' ≤ j

-- below the copy d, P holds of every loop copy in the chain of i
abbrev pub Alls : Spec → Run → (ℕ → Type 0) → ℕ → ℕ → Type 0
Alls s r P i d = (q : ℕ) → Chain r.parent i q → Chain r.parent q d → q ≢ d → s.kind (r.block q) ≡ 2 → P q

-- below the copy d, every loop copy in the chain of i is the last of its group
abbrev pub Lasts : Spec → Run → ℕ → ℕ → Type 0
Lasts s r i d = Alls s r (Last r) i d

-- below the copy d, every loop copy in the chain of i is the first of its group
abbrev pub Firsts : Spec → Run → ℕ → ℕ → Type 0
Firsts s r i d = Alls s r (First r) i d

-- a is the block farthest from block 0 whose domain holds the vertices x and y
pub record Farthest (s : Spec) (x y a : ℕ) : Type 0 where
  pub holds_x : Domain s a x
  pub holds_y : Domain s a y
  pub farthest : (k d e : ℕ) → Domain s k x → Domain s k y → Depth s.above k d → Depth s.above a e → d ≤ e

-- A derived edge of the first kind, from step u to step w. The specification has the edge between their origins. The chains of the two
-- contexts hold the same copy, `common`, of the block farthest from block 0 whose domain holds both origins. Below that copy, every
-- loop copy in u's chain is the last of its group, and every loop copy in w's chain the first.
pub record Plain (s : Spec) (r : Run) (u w : ℕ) : Type 0 where
  pub plain_edge : Edge s (r.origin u) (r.origin w)
  pub common : ℕ
  pub far : Farthest s (r.origin u) (r.origin w) (r.block common)
  pub in_u : Chain r.parent (r.context u) common
  pub in_w : Chain r.parent (r.context w) common
  pub lasts : Lasts s r (r.context u) common
  pub firsts : Firsts s r (r.context w) common

-- A derived edge of the second kind, from step u to step w: from the end of one turn of a loop to the start of the next. u's origin is
-- the loop's sink and w's its source. u's chain holds a copy of the loop, `from`, and w's chain the next copy in its group, `to`. Below
-- those two copies, loop copies are last in u's chain and first in w's.
pub record Back (s : Spec) (r : Run) (u w : ℕ) : Type 0 where
  pub from : ℕ
  pub to : ℕ
  pub is_loop : s.kind (r.block from) ≡ 2
  pub from_sink : r.origin u ≡ s.sink (r.block from)
  pub to_source : r.origin w ≡ s.source (r.block from)
  pub back_u : Chain r.parent (r.context u) from
  pub back_w : Chain r.parent (r.context w) to
  pub next : Next r from to
  pub back_lasts : Lasts s r (r.context u) from
  pub back_firsts : Firsts s r (r.context w) to

-- the edge from step u to step w is derived: it is of the first or of the second kind
pub record Derived (s : Spec) (r : Run) (u w : ℕ) : Type 0 where
  pub tail_range : u < r.v
  pub head_range : w < r.v
  pub way : Plain s r u w ⊎ Back s r u w

-- the copies and steps of a run are as the specification wants them: all that conforming asks but for the edges
pub record Placed (s : Spec) (r : Run) : Type 0 where
  -- The run's numbers are in their ranges. Copy 0 is of block 0; every other copy has a parent numbered below it and a block above 0.
  pub tree : Falls r.parent
  pub copies : 0 < r.c
  pub block_zero : r.block 0 ≡ 0
  pub block_range : (i : ℕ) → 0 < i → i < r.c → (0 < r.block i) × (r.block i < s.b)
  pub context_range : (u : ℕ) → u < r.v → r.context u < r.c
  pub origin_range : (u : ℕ) → u < r.v → r.origin u < s.n
  -- Each copy's block has as its parent the block of the copy's parent.
  pub follows : (i : ℕ) → i < r.c → r.block (r.parent i) ≡ s.above (r.block i)
  -- Each copy has under it at least one copy of each block but 0 whose parent is its block.
  pub children : (i k : ℕ) → i < r.c → 0 < k → k < s.b → s.above k ≡ r.block i
      → (j : ℕ) × (j < r.c) × (0 < j) × (r.parent j ≡ i) × (r.block j ≡ k)
  -- For each copy and each vertex at home in its block, exactly one step has that context and that origin, and there are no other steps.
  pub at_home : (u : ℕ) → u < r.v → s.home (r.origin u) ≡ r.block (r.context u)
  pub one_step : (i x : ℕ) → i < r.c → x < s.n → s.home x ≡ r.block i
      → (u : ℕ) × (u < r.v) × (r.context u ≡ i) × (r.origin u ≡ x)
  pub only_step : (u w : ℕ) → u < r.v → w < r.v → r.context u ≡ r.context w → r.origin u ≡ r.origin w → u ≡ w

-- the run conforms to the specification
pub record Conforms (s : Spec) (r : Run) : Type 0 where
  -- Its copies and steps are as the specification wants them.
  pub placed : Placed s r
  -- The listed edges are exactly the derived ones.
  pub exactly : (u w : ℕ) → T (r.listed u w) ↔ Derived s r u w
