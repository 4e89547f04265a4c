-- Why a run does not conform, in the order of the checks.
use Rattle.std.specs.Prelude.{◌≡◌, ℕ, ◌<◌, T, ◌≢◌, List, length, slice_index_or}
use Rattle.model.specs.Specifications.{Spec}
use Rattle.model.specs.Runs.{Run, Placed, Derived}
use Rattle.formats.specs.Runs.{no_run_edge}
use Rattle.formats.specs.RunFiles.{run_edges_of, run_of}
use Rattle.formats.specs.Sections.{Lowest}
use Rattle.formats.specs.declared.faults.Fault.{Fault}
use Rattle.nesting.specs.Copies.{Follows, Filled, Misnested}
use Rattle.records.specs.declared.kinds.RunEdge.{RunEdge}

-- the origin of step u is not at home in the block of its context
abbrev pub Astray : Spec → Run → ℕ → Type 0
Astray s r u = (u < r.v) × (s.home (r.origin u) ≢ r.block (r.context u))

abbrev pub AtHome : Spec → Run → Type 0
AtHome s r = (u : ℕ) → u < r.v → s.home (r.origin u) ≡ r.block (r.context u)

-- step u has the context and the origin of an earlier step
abbrev pub Repeats : Run → ℕ → Type 0
Repeats r u = (u < r.v) × ((w : ℕ) × (w < u) × (r.context w ≡ r.context u) × (r.origin w ≡ r.origin u))

abbrev pub Once : Run → Type 0
Once r = (u w : ℕ) → u < r.v → w < r.v → r.context u ≡ r.context w → r.origin u ≡ r.origin w → u ≡ w

-- some step has context i and origin x
abbrev pub HasStep : Run → ℕ → ℕ → Type 0
HasStep r i x = (u : ℕ) × (u < r.v) × (r.context u ≡ i) × (r.origin u ≡ x)

-- a vertex at home in the block of copy i has no step with context i
abbrev pub ShortOf : Spec → Run → ℕ → Type 0
ShortOf s r i = (i < r.c) × ((x : ℕ) × (x < s.n) × (s.home x ≡ r.block i) × (¬ (HasStep r i x)))

abbrev pub Stepped : Spec → Run → Type 0
Stepped s r = (i x : ℕ) → i < r.c → x < s.n → s.home x ≡ r.block i → HasStep r i x

-- the edge at index k of the list is derived; it is not; every one is
abbrev pub DerivedAt : Spec → Run → List RunEdge → ℕ → Type 0
DerivedAt s r es k = Derived s r (slice_index_or es k no_run_edge).tail (slice_index_or es k no_run_edge).head

abbrev pub Stray : Spec → Run → List RunEdge → ℕ → Type 0
Stray s r es k = (k < length es) × (¬ (DerivedAt s r es k))

abbrev pub AllDerived : Spec → Run → List RunEdge → Type 0
AllDerived s r es = (k : ℕ) → k < length es → DerivedAt s r es k

-- a derived edge from step u is not listed
abbrev pub Unlisted : Spec → Run → ℕ → Type 0
Unlisted s r u = (w : ℕ) × Derived s r u w × (¬ (T (r.listed u w)))

-- The checks in their order: how the copies nest; a step whose origin is not at home in its context's block; a step that repeats an earlier
-- one; a missing step; a listed edge that is not derived; a derived edge that is not listed. Each names the lowest step, copy or index.
pub data Nonconforming (s : Spec) (bytes : List ℕ) : Fault → Type 0 where
  misnested : {f : Fault} → Misnested s (run_of bytes) f → Nonconforming s bytes f
  astray : {u : ℕ} → Follows s (run_of bytes) → Filled s (run_of bytes) → Lowest (Astray s (run_of bytes)) u
      → Nonconforming s bytes (record { layer = 3; number = 13; place = u })
  repeated : {u : ℕ} → Follows s (run_of bytes) → Filled s (run_of bytes) → AtHome s (run_of bytes) → Lowest (Repeats (run_of bytes)) u
      → Nonconforming s bytes (record { layer = 3; number = 14; place = u })
  short_of : {i : ℕ} → Follows s (run_of bytes) → Filled s (run_of bytes) → AtHome s (run_of bytes) → Once (run_of bytes)
      → Lowest (ShortOf s (run_of bytes)) i → Nonconforming s bytes (record { layer = 3; number = 15; place = i })
  stray : {k : ℕ} → Placed s (run_of bytes) → Lowest (Stray s (run_of bytes) (run_edges_of bytes)) k
      → Nonconforming s bytes (record { layer = 3; number = 16; place = k })
  unlisted : {u : ℕ} → Placed s (run_of bytes) → AllDerived s (run_of bytes) (run_edges_of bytes) → Lowest (Unlisted s (run_of bytes)) u
      → Nonconforming s bytes (record { layer = 3; number = 17; place = u })
