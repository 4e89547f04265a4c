-- Going up the chain of a copy, a copy at a time, with something asked of every loop copy on the way.
use Rattle.std.proofs.Common.{◌≡◌, ℕ, ◌<◌, ◌≢◌, arith}
use Rattle.model.specs.Forests.{Chain, Falls}
use Rattle.model.specs.Specifications.{Spec}
use Rattle.model.specs.Runs.{Run, Alls}
use Rattle.model.proofs.Cases.{cases}
use Rattle.model.proofs.Chains.{chain_le, chain_parent}
use Rattle.model.proofs.Groups.{alls_self, alls_more, alls_here, alls_rest}

-- on the way from copy i to copy d one has come to q, and P holds of all loop copies on the way where it does of those still to come
pub record Climbed (s : Spec) (r : Run) (P : ℕ → Type 0) (i d q : ℕ) : Type 0 where
  pub is_copy : q < r.c
  pub ahead : Chain r.parent q d
  pub passed : Alls s r P q d → Alls s r P i d
  pub left_over : Alls s r P i d → Alls s r P q d

module _ {s : Spec} {r : Run} {P : ℕ → Type 0} where
  -- a loop copy on the way of which P does not hold
  pub climbed_fails : {i d q : ℕ} → Climbed s r P i d q → q ≢ d → (¬ (s.kind (r.block q) ≡ 2 → P q)) → ¬ (Alls s r P i d)
  climbed_fails C g n all = n (alls_here s r P C.ahead g (C.left_over all))

module _ {s : Spec} {r : Run} {P : ℕ → Type 0} (f : Falls r.parent) where
  pub climbed_pos : {i d q : ℕ} → Climbed s r P i d q → q ≢ d → 0 < q
  climbed_pos C g = omega (arith, chain_le f C.ahead, g)

  pub climbed_less : {i d q q' : ℕ} → Climbed s r P i d q → q ≢ d → q' ≡ r.parent q → q' < q
  climbed_less {q = q} C g e = omega (arith, e, f.falls q (climbed_pos C g))

  pub climbed_more : {i d q q' : ℕ} → Climbed s r P i d q → q ≢ d → (s.kind (r.block q) ≡ 2 → P q) → q' ≡ r.parent q → Climbed s r P i d q'
  climbed_more {i} {d} {q} {q'} C g here e =
      let next : Climbed s r P i d (r.parent q) = record {
        is_copy = omega (arith, C.is_copy, f.falls q (climbed_pos C g));
        ahead = cases (chain_parent C.ahead) (λ x. absurd (g x)) (λ x. x);
        passed = λ a. C.passed (alls_more s r P here a);
        left_over = λ a. alls_rest s r P (C.left_over a);
      } in
      rw e next

  pub climbed_all : {i d q : ℕ} → Climbed s r P i d q → q ≡ d → Alls s r P i d
  climbed_all C e = C.passed (alls_self s r P f e)
