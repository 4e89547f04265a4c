-- A record with a given pair of numbers, by its place in the list.
use Rattle.std.proofs.Common.{◌≡◌, ℕ, zero, suc, ◌<◌, ◌&&◌, T, eqb, List, [], ◌∷◌, length, get_or, inl, inr, arith, eqb→eq}
use Rattle.model.proofs.Tests.{eq→eqb, and_so, and_thus, or_so, or_thus}
use Rattle.formats.specs.Pairs.{holds_pair}

module _ {E : Type 0} (first second : E → ℕ) (d : E) where
  pub pair_at : (es : List E) (x y : ℕ) → T (holds_pair first second es x y) → (k : ℕ) × (k < length es) × (first (get_or es k d) ≡ x) × (second (get_or es k d) ≡ y)
  pair_at [] x y t = elim t [ ]
  pair_at (e ∷ es) x y t = elim (or_so (eqb (first e) x && eqb (second e) y) (holds_pair first second es x y) t) [
    | inl h ↦ let w = and_so (eqb (first e) x) (eqb (second e) y) h in (0, omega arith, eqb→eq (first e) x w.0, eqb→eq (second e) y w.1)
    | inr h ↦ let w = pair_at es x y h in (suc w.0, omega (arith, w.1), w.2, w.3)
  ]

  pub at_pair : (es : List E) (x y k : ℕ) → k < length es → first (get_or es k d) ≡ x → second (get_or es k d) ≡ y → T (holds_pair first second es x y)
  at_pair [] x y k h a b = absurd (omega arith)
  at_pair (e ∷ es) x y zero h a b = or_thus (eqb (first e) x && eqb (second e) y) (holds_pair first second es x y)
      (inl (and_thus (eqb (first e) x) (eqb (second e) y) (eq→eqb (first e) x a) (eq→eqb (second e) y b)))
  at_pair (e ∷ es) x y (suc k) h a b = or_thus (eqb (first e) x && eqb (second e) y) (holds_pair first second es x y)
      (inr (at_pair es x y k (omega arith) a b))
