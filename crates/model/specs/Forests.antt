-- Parents: the blocks of a specification and the copies of a run are both numbered from 0, and each but 0 has a parent.
use Rattle.std.specs.Prelude.{◌≡◌, ℕ, suc, ◌<◌}

-- the parent of 0 is 0, and every other number has a parent below it
pub record Falls (p : ℕ → ℕ) : Type 0 where
  pub zero_parent : p 0 ≡ 0
  pub falls : (k : ℕ) → 0 < k → p k < k

-- following parents from i, zero or more times, leads to j: j is in the chain of i
pub data Chain (p : ℕ → ℕ) : ℕ → ℕ → Type 0 where
  stop : {i : ℕ} → Chain p i i
  up : {i j : ℕ} → Chain p (p i) j → Chain p i j

-- following parents from k leads to 0 in d steps: k lies d below 0
pub data Depth (p : ℕ → ℕ) : ℕ → ℕ → Type 0 where
  at_zero : Depth p 0 0
  under : {k d : ℕ} → 0 < k → Depth p (p k) d → Depth p k (suc d)

-- s and t are children of one parent, s in the chain of i and t in the chain of j
pub record Split (p : ℕ → ℕ) (i j s t : ℕ) : Type 0 where
  pub left : Chain p i s
  pub right : Chain p j t
  pub left_pos : 0 < s
  pub right_pos : 0 < t
  pub same_parent : p s ≡ p t
