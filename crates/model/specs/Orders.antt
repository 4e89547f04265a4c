-- The three orders of a run's copies, and the position of a copy in an order. An order lists copy 0 first; the groups under one copy come
-- in ascending block number, and each copy is directly followed by all that lies under it. The orders differ within groups.
use Rattle.std.specs.Prelude.{◌≡◌, ℕ, suc, ◌<◌, Bool, true, false, ◌≢◌, ◌⊎◌, ◌==◌}
use Rattle.model.specs.Forests.{Chain, Split}
use Rattle.model.specs.Specifications.{Spec}
use Rattle.model.specs.Runs.{Run}

-- An order is given by the kinds of block whose groups descend in it.

-- in order 1 the copies of every group ascend
abbrev pub order1 : ℕ → Bool
order1 k = false

-- order 2 is the same, but groups of forks (kind 1) descend
abbrev pub order2 : ℕ → Bool
order2 k = k == 1

-- order 3 is order 1, but groups of loops (kind 2) descend
abbrev pub order3 : ℕ → Bool
order3 k = k == 2

-- of two copies of a group, s comes before t: in a group that descends (true) the higher number comes first
abbrev pub Turned : Bool → ℕ → ℕ → Type 0
Turned true s t = t < s
Turned false s t = s < t

-- of two children of one copy, s comes before t: its block has the lower number, or they are of one group and the group runs that way
abbrev pub Sooner : Spec → Run → (ℕ → Bool) → ℕ → ℕ → Type 0
Sooner sp r o s t = (r.block s < r.block t) ⊎ ((r.block s ≡ r.block t) × Turned (o (sp.kind (r.block s))) s t)

-- copies i and j lie under, or are, two children of one copy, and the one with i comes before the one with j
pub record Branch (sp : Spec) (r : Run) (o : ℕ → Bool) (i j : ℕ) : Type 0 where
  pub bs : ℕ
  pub bt : ℕ
  pub bsplit : Split r.parent i j bs bt
  pub sooner : Sooner sp r o bs bt

-- copy i comes before copy j: j lies under i, or the two lie under two children of one copy, i under the one that comes first
abbrev pub Before : Spec → Run → (ℕ → Bool) → ℕ → ℕ → Type 0
Before sp r o i j = (Chain r.parent j i × (i ≢ j)) ⊎ Branch sp r o i j

-- q of the numbers below n are P
pub data Count (P : ℕ → Type 0) : ℕ → ℕ → Type 0 where
  none : Count P 0 0
  hit : {n q : ℕ} → P n → Count P n q → Count P (suc n) (suc q)
  miss : {n q : ℕ} → (¬ (P n)) → Count P n q → Count P (suc n) q

-- the position of copy i in the order is q: so many copies come before it
abbrev pub Position : Spec → Run → (ℕ → Bool) → ℕ → ℕ → Type 0
Position sp r o i q = Count (λ j. Before sp r o j i) r.c q
