-- A path of zero or more edges is none, or one of one or more.
use Rattle.std.proofs.Common.{ℕ, Bool, ◌||◌, T, eqb, ◌↔◌, subst, inl, inr, eqb→eq}
use Rattle.model.specs.Paths.{Path*, Path⁺, here, step}
use Rattle.model.proofs.Paths.{path_last}
use Rattle.model.proofs.Tests.{eq→eqb, or_so, or_thus}

-- from a test of one or more edges
pub reach_by : (R : ℕ → ℕ → Type 0) (x y : ℕ) (t : Bool) → (T t ↔ Path⁺ R x y) → T (eqb x y || t) ↔ Path* R x y
reach_by R x y t law = (
  (λ h. elim (or_so (eqb x y) t h) [
    | inl e ↦ subst (λ (z : ℕ). Path* R x z) (eqb→eq x y e) here
    | inr f ↦ let w = law.0 f in step w.1 w.2
  ]),
  λ p. or_thus (eqb x y) t (elim (path_last p) [ inl e ↦ inl (eq→eqb x y e) | inr w ↦ inr (law.1 w) ]),
)
