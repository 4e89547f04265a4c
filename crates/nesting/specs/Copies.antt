-- The nesting of a run's copies, and why a run is refused for it.
use Rattle.std.specs.Prelude.{◌≡◌, ℕ, ◌<◌, ◌≢◌}
use Rattle.model.specs.Specifications.{Spec}
use Rattle.model.specs.Runs.{Run}
use Rattle.formats.specs.Sections.{Lowest}
use Rattle.formats.specs.declared.faults.Fault.{Fault}

-- copy i stands under a wrong parent: the block of its parent is not the parent of its block
abbrev pub Misplaced : Spec → Run → ℕ → Type 0
Misplaced s r i = (i < r.c) × (r.block (r.parent i) ≢ s.above (r.block i))

-- no copy does
abbrev pub Follows : Spec → Run → Type 0
Follows s r = (i : ℕ) → i < r.c → r.block (r.parent i) ≡ s.above (r.block i)

-- a copy of block k stands directly under copy i
abbrev pub Under : Run → ℕ → ℕ → Type 0
Under r i k = (j : ℕ) × (j < r.c) × (0 < j) × (r.parent j ≡ i) × (r.block j ≡ k)

-- copy i lacks a copy of block k, which is not block 0 and has the block of i as its parent
abbrev pub Lacks : Spec → Run → ℕ → ℕ → Type 0
Lacks s r i k = (0 < k) × (k < s.b) × (s.above k ≡ r.block i) × (¬ (Under r i k))

-- copy i lacks none: it has under it a copy of each block but 0 whose parent is its block
abbrev pub Full : Spec → Run → ℕ → Type 0
Full s r i = (k : ℕ) → 0 < k → k < s.b → s.above k ≡ r.block i → Under r i k

-- copy i lacks one under it
abbrev pub Lacking : Spec → Run → ℕ → Type 0
Lacking s r i = (i < r.c) × ((k : ℕ) × Lacks s r i k)

-- no copy does: each has under it a copy of each block but 0 whose parent is its block
abbrev pub Filled : Spec → Run → Type 0
Filled s r = (i k : ℕ) → i < r.c → 0 < k → k < s.b → s.above k ≡ r.block i → Under r i k

-- The checks in their order: a copy under a wrong parent; a copy that lacks one under it. Each names the lowest such copy.
pub data Misnested (s : Spec) (r : Run) : Fault → Type 0 where
  under_wrong : {i : ℕ} → Lowest (Misplaced s r) i → Misnested s r (record { layer = 2; number = 11; place = i })
  lacks_one : {i : ℕ} → Follows s r → Lowest (Lacking s r) i → Misnested s r (record { layer = 2; number = 12; place = i })
