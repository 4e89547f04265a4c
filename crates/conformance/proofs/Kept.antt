-- What the facts that a derivation keeps under ∥ ∥₁ tell: each part of a placed run is a test, or found by one.
use Rattle.std.proofs.Common.{◌≡◌, ℕ, ◌<◌, ◌⊎◌, sym, inl, inr, arith}
use Rattle.std.proofs.Math.Logic.{∥∥₁_elim}
use Rattle.model.specs.Specifications.{Spec, Edge}
use Rattle.model.specs.Runs.{Run, Derived, Placed}
use Rattle.model.proofs.Cases.{cases}
use Rattle.model.proofs.Tests.{Test, bool_or, test_eq, test_lt, test_and, test_any}
use Rattle.graphs.specs.Graphs.{Joins}
use Rattle.graphs.specs.Graphs.{Graph}
use Rattle.conformance.specs.Links.{TurnsBelow, Linked, joins_prop}

-- what follows from a kept fact, where that is a test
told : {P Q : Type 0} → ∥ P ∥₁ → Test Q → (P → Q) → Q
told kept t f = cases (bool_or t.bit) t.so (λ n. absurd (∥∥₁_elim kept (λ x y. absurd x) (λ p. n (t.thus (f p)))))

module _ {s : Spec} {r : Run} (kept : ∥ Placed s r ∥₁) where
  child_kept : (i k : ℕ) → i < r.c → 0 < k → k < s.b → s.above k ≡ r.block i → (j : ℕ) × (j < r.c) × (0 < j) × (r.parent j ≡ i) × (r.block j ≡ k)
  child_kept i k hi z hk e =
      let t : Test ((j : ℕ) × (j < r.c) × ((0 < j) × ((r.parent j ≡ i) × (r.block j ≡ k))))
      = test_any r.c (λ j. test_and (test_lt 0 j) (test_and (test_eq (r.parent j) i) (test_eq (r.block j) k))) in
      let w = told kept t (λ P. let j = P.children i k hi z hk e in (j.0, j.1, (j.2, (j.3, j.4)))) in
      (w.0, w.1, w.2.0, w.2.1.0, w.2.1.1)

  step_kept : (i x : ℕ) → i < r.c → x < s.n → s.home x ≡ r.block i → (u : ℕ) × (u < r.v) × (r.context u ≡ i) × (r.origin u ≡ x)
  step_kept i x hi hx e =
      let t : Test ((u : ℕ) × (u < r.v) × ((r.context u ≡ i) × (r.origin u ≡ x))) = test_any r.v (λ u. test_and (test_eq (r.context u) i) (test_eq (r.origin u) x)) in
      let w = told kept t (λ P. let u = P.one_step i x hi hx e in (u.0, u.1, (u.2, u.3))) in
      (w.0, w.1, w.2.0, w.2.1)

  pub placed_kept : Placed s r
  placed_kept = record {
    tree = record { zero_parent = told kept (test_eq _ _) (λ P. P.tree.zero_parent); falls = λ k z. told kept (test_lt _ _) (λ P. P.tree.falls k z) };
    copies = told kept (test_lt _ _) (λ P. P.copies);
    block_zero = told kept (test_eq _ _) (λ P. P.block_zero);
    block_range = λ i z h. told kept (test_and (test_lt _ _) (test_lt _ _)) (λ P. P.block_range i z h);
    context_range = λ u h. told kept (test_lt _ _) (λ P. P.context_range u h);
    origin_range = λ u h. told kept (test_lt _ _) (λ P. P.origin_range u h);
    follows = λ i h. told kept (test_eq _ _) (λ P. P.follows i h);
    children = child_kept;
    at_home = λ u h. told kept (test_eq _ _) (λ P. P.at_home u h);
    one_step = step_kept;
    only_step = λ u w hu hw c o. told kept (test_eq _ _) (λ P. P.only_step u w hu hw c o);
  }

-- the origins of a derived edge have a link
pub link_kept : (s : Spec) (r : Run) (g : Graph) {u w : ℕ} → ∥ Linked s g ∥₁ → Placed s r → Derived s r u w → Joins g (r.origin u) (r.origin w)
link_kept s r g {u} {w} kept P d = ∥∥₁_elim kept (joins_prop g (r.origin u) (r.origin w)) (λ L. (L (r.origin u) (r.origin w)).1 link)
  where
    link : Edge s (r.origin u) (r.origin w) ⊎ TurnsBelow s s.b (r.origin u) (r.origin w)
    link = cases d.way (λ p. inl p.plain_edge) λ b.
        let m = b.next.mate in
        let k = P.block_range b.to m.not_zero m.exists in
        inr (r.block b.from, omega (arith, k.0, m.one_block), omega (arith, k.1, m.one_block), b.is_loop, sym b.from_sink, sym b.to_source)
