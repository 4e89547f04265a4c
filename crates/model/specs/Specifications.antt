-- A workflow specification: vertices, edges and nested blocks, and what it takes for it to be sealed.
use Rattle.std.specs.Prelude.{◌≡◌, ℕ, ◌<◌, Bool, T, ◌≢◌, ◌⊎◌, ◌↔◌}
use Rattle.model.specs.Paths.{Path*, Path⁺}
use Rattle.model.specs.Forests.{Chain, Falls}

-- n vertices and b blocks, each numbered from 0. Block 0 is the whole, of kind 0; any other block is a fork, kind 1, or a loop, kind 2.
-- A vertex has a home block and a tool code, a block has a parent, a source and a sink.
pub record Spec : Type 0 where
  pub n : ℕ
  pub b : ℕ
  pub edge : ℕ → ℕ → Bool
  pub home : ℕ → ℕ
  pub tool : ℕ → ℕ
  pub above : ℕ → ℕ
  pub kind : ℕ → ℕ
  pub source : ℕ → ℕ
  pub sink : ℕ → ℕ

-- the specification has the edge from x to y
abbrev pub Edge : Spec → ℕ → ℕ → Type 0
Edge s x y = T (s.edge x y)

-- vertex x lies in the domain of block k: its home is k, or following parents from its home leads to k
abbrev pub Domain : Spec → ℕ → ℕ → Type 0
Domain s k x = Chain s.above (s.home x) k

-- every number of a specification lies in its range
pub record InRanges (s : Spec) : Type 0 where
  pub edge_range : (x y : ℕ) → Edge s x y → (x < s.n) × (y < s.n)
  pub home_range : (x : ℕ) → x < s.n → s.home x < s.b
  pub nest : Falls s.above
  pub whole : s.kind 0 ≡ 0
  pub kinds : (k : ℕ) → 0 < k → k < s.b → (s.kind k ≡ 1) ⊎ (s.kind k ≡ 2)
  pub source_range : (k : ℕ) → k < s.b → s.source k < s.n
  pub sink_range : (k : ℕ) → k < s.b → s.sink k < s.n

-- no path of one or more edges leads from a vertex to itself
abbrev pub Acyclic : Spec → Type 0
Acyclic s = (x : ℕ) → ¬ (Path⁺ (Edge s) x x)

-- the source of block 0 is the only vertex without an edge into it, and its sink the only one without an edge out of it
pub record HasWholeEnds (s : Spec) : Type 0 where
  pub only_source : (x : ℕ) → x < s.n → (((y : ℕ) → ¬ (Edge s y x)) ↔ (x ≡ s.source 0))
  pub only_sink : (x : ℕ) → x < s.n → (((y : ℕ) → ¬ (Edge s x y)) ↔ (x ≡ s.sink 0))

-- Loop k: source and sink lie in its domain. Each vertex of the domain but the source has an edge into it, all from the domain;
-- each but the sink has an edge out of it, all to the domain.
pub record KeepsLoopRule (s : Spec) (k : ℕ) : Type 0 where
  pub source_in : Domain s k (s.source k)
  pub sink_in : Domain s k (s.sink k)
  pub some_in : (x : ℕ) → x < s.n → Domain s k x → x ≢ s.source k → (y : ℕ) × Edge s y x
  pub all_in : (x y : ℕ) → Domain s k x → x ≢ s.source k → Edge s y x → Domain s k y
  pub some_out : (x : ℕ) → x < s.n → Domain s k x → x ≢ s.sink k → (y : ℕ) × Edge s x y
  pub all_out : (x y : ℕ) → Domain s k x → x ≢ s.sink k → Edge s x y → Domain s k y

-- an edge within the domain of block k, taken without direction
abbrev pub Link : Spec → ℕ → ℕ → ℕ → Type 0
Link s k x y = Domain s k x × Domain s k y × (Edge s x y ⊎ Edge s y x)

-- Fork k, its domain: not empty, holds neither source nor sink. Each of its vertices has an edge into it and one out of it;
-- edges into it start in it or at the source, edges out of its vertices end in it or at the sink; it is connected by the edges within it.
pub record ForkDomain (s : Spec) (k : ℕ) : Type 0 where
  pub not_empty : (x : ℕ) × (x < s.n) × Domain s k x
  pub source_out : ¬ (Domain s k (s.source k))
  pub sink_out : ¬ (Domain s k (s.sink k))
  pub fork_some_in : (x : ℕ) → x < s.n → Domain s k x → (y : ℕ) × Edge s y x
  pub fork_all_in : (x y : ℕ) → Domain s k x → Edge s y x → Domain s k y ⊎ (y ≡ s.source k)
  pub fork_some_out : (x : ℕ) → x < s.n → Domain s k x → (y : ℕ) × Edge s x y
  pub fork_all_out : (x y : ℕ) → Domain s k x → Edge s x y → Domain s k y ⊎ (y ≡ s.sink k)
  pub connected : (x y : ℕ) → x < s.n → y < s.n → Domain s k x → Domain s k y → Path* (Link s k) x y

-- Fork k, its ends: the source lies in the parent's domain or, where the parent is a fork, equals the parent's source; likewise the sink.
-- Every fork whose domain holds the source or the sink of k is above k.
pub record ForkEnds (s : Spec) (k : ℕ) : Type 0 where
  pub source_at : Domain s (s.above k) (s.source k) ⊎ ((s.kind (s.above k) ≡ 1) × (s.source k ≡ s.source (s.above k)))
  pub sink_at : Domain s (s.above k) (s.sink k) ⊎ ((s.kind (s.above k) ≡ 1) × (s.sink k ≡ s.sink (s.above k)))
  pub source_forks : (j : ℕ) → 0 < j → j < s.b → s.kind j ≡ 1 → Domain s j (s.source k) → Chain s.above k j
  pub sink_forks : (j : ℕ) → 0 < j → j < s.b → s.kind j ≡ 1 → Domain s j (s.sink k) → Chain s.above k j

pub record KeepsForkRule (s : Spec) (k : ℕ) : Type 0 where
  pub inner : ForkDomain s k
  pub ends : ForkEnds s k

-- blocks j and k have the same vertices in their domains
abbrev pub SameDomain : Spec → ℕ → ℕ → Type 0
SameDomain s j k = (x : ℕ) → x < s.n → (Domain s j x ↔ Domain s k x)

-- block k and a parent of the same kind have different domains
abbrev pub Distinct : Spec → ℕ → Type 0
Distinct s k = s.kind k ≡ s.kind (s.above k) → ¬ (SameDomain s k (s.above k))

-- the specification is sealed
pub record Sealed (s : Spec) : Type 0 where
  pub ranges : InRanges s
  pub acyclic : Acyclic s
  pub whole_ends : HasWholeEnds s
  pub loops : (k : ℕ) → 0 < k → k < s.b → s.kind k ≡ 2 → KeepsLoopRule s k
  pub forks : (k : ℕ) → 0 < k → k < s.b → s.kind k ≡ 1 → KeepsForkRule s k
  pub distinct : (k : ℕ) → 0 < k → k < s.b → Distinct s k
