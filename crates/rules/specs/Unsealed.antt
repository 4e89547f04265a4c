-- Why a specification is not sealed.
use Rattle.std.specs.Prelude.{◌≡◌, ℕ, ◌<◌}
use Rattle.model.specs.Paths.{Path⁺}
use Rattle.model.specs.Specifications.{Spec, Edge, Acyclic, HasWholeEnds, KeepsLoopRule, KeepsForkRule, Distinct}
use Rattle.formats.specs.Sections.{Lowest}
use Rattle.formats.specs.declared.faults.Fault.{Fault}

-- a path of one or more edges leads from the vertex back to it
abbrev pub OnCycle : Spec → ℕ → Type 0
OnCycle s x = Path⁺ (Edge s) x x

-- block k keeps the rule of its kind
pub record KeepsRule (s : Spec) (k : ℕ) : Type 0 where
  pub as_loop : s.kind k ≡ 2 → KeepsLoopRule s k
  pub as_fork : s.kind k ≡ 1 → KeepsForkRule s k

-- block k passes its checks
pub record Passes (s : Spec) (k : ℕ) : Type 0 where
  pub keeps : KeepsRule s k
  pub apart : Distinct s k

-- the blocks from 1 up to, and without, k pass theirs
abbrev pub PassedBelow : Spec → ℕ → Type 0
PassedBelow s k = (j : ℕ) → 0 < j → j < k → Passes s j

-- The checks in their order: cycles; the ends of block 0; and then, from block 1 up, each block's rule and its domain.
pub data Unsealed (s : Spec) : Fault → Type 0 where
  cyclic : {x : ℕ} → Lowest (OnCycle s) x → Unsealed s (record { layer = 2; number = 6; place = x })
  wrong_ends : Acyclic s → (¬ (HasWholeEnds s)) → Unsealed s (record { layer = 2; number = 7; place = 0 })
  breaks_loop : {k : ℕ} → Acyclic s → HasWholeEnds s → 0 < k → k < s.b → PassedBelow s k → s.kind k ≡ 2 → (¬ (KeepsLoopRule s k)) → Unsealed s (record { layer = 2; number = 8; place = k })
  breaks_fork : {k : ℕ} → Acyclic s → HasWholeEnds s → 0 < k → k < s.b → PassedBelow s k → s.kind k ≡ 1 → (¬ (KeepsForkRule s k)) → Unsealed s (record { layer = 2; number = 9; place = k })
  same_domain : {k : ℕ} → Acyclic s → HasWholeEnds s → 0 < k → k < s.b → PassedBelow s k → KeepsRule s k → (¬ (Distinct s k)) → Unsealed s (record { layer = 2; number = 10; place = k })

-- where all checks before those of block k pass, the specification is not sealed, and f is why
abbrev pub UnsealedAt : Spec → ℕ → Fault → Type 0
UnsealedAt s k f = Acyclic s → HasWholeEnds s → PassedBelow s k → Unsealed s f
