-- A walk up the parents, one step at a time.
use Rattle.std.proofs.Common.{ℕ, ◌<◌, ◌≤◌, T, eqb, ◌↔◌, arith, eqb→eq}
use Rattle.model.specs.Forests.{Chain, up, Falls}
use Rattle.model.proofs.Cases.{cases}
use Rattle.model.proofs.Chains.{chain_parent, chain_eq, chain_le}
use Rattle.model.proofs.Tests.{eq→eqb}

module _ {p : ℕ → ℕ} where
  pub walk_on : {i j at : ℕ} → j < at → Chain p i j ↔ Chain p at j → Chain p i j ↔ Chain p (p at) j
  walk_on l h = ((λ c. cases (chain_parent (h.0 c)) (λ e. absurd (omega arith)) (λ d. d)), λ c. h.1 (up c))

  pub walk_ends : {i j at : ℕ} → Falls p → at ≤ j → Chain p i j ↔ Chain p at j → T (eqb at j) ↔ Chain p i j
  walk_ends {i} {j} {at} f l h = ((λ t. h.1 (chain_eq (eqb→eq at j t))), λ c. eq→eqb at j (omega (arith, chain_le f (h.0 c))))
