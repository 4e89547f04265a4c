-- A graph of edges to which the turns of loops are added one by one.
use Rattle.std.proofs.Common.{◌≡◌, ℕ, ◌+◌, ◌<◌, ◌⊎◌, ◌↔◌, sym, ap, ◌∙◌, inl, inr, arith}
use Rattle.model.specs.Specifications.{Spec}
use Rattle.std.proofs.lemmas.Bool.{cases_eq}
use Rattle.model.proofs.Cases.{cases}
use Rattle.graphs.specs.Graphs.{Graph, Joins}
use Rattle.graphs.specs.Rows.{vertices}
use Rattle.conformance.specs.Links.{TurnsBelow, LinkedBelow}

module _ (s : Spec) (g : Graph) where
  wider : (k : ℕ) {x y : ℕ} → TurnsBelow s k x y → TurnsBelow s (k + 1) x y
  wider k t = (t.0, t.1, omega (arith, t.2), t.3, t.4, t.5)

  pub linked_skip : (k : ℕ) → (¬ (s.kind k ≡ 2)) → LinkedBelow s k g → LinkedBelow s (k + 1) g
  linked_skip k n h x y = (
    (λ j. cases ((h x y).0 j) inl (λ t. inr (wider k t))),
    λ e. cases e (λ a. (h x y).1 (inl a)) λ t. cases (cases_eq t.0 k)
        (λ d. absurd (n (sym (ap s.kind d) ∙ t.3)))
        (λ d. (h x y).1 (inr (t.0, t.1, omega (arith, d, t.2), t.3, t.4, t.5))),
  )

  pub linked_turn : (g' : Graph) (k : ℕ) {p q : ℕ} → 0 < k → s.kind k ≡ 2 → p ≡ s.sink k → q ≡ s.source k → s.sink k < vertices → s.source k < vertices
      → ((a b : ℕ) → Joins g' a b ↔ (Joins g a b ⊎ ((a ≡ p) × (b ≡ q) × (p < vertices) × (q < vertices))))
      → LinkedBelow s k g → LinkedBelow s (k + 1) g'
  linked_turn g' k {p} {q} z l i o a b f h x y = (
    (λ j. cases ((f x y).0 j) (λ j'. cases ((h x y).0 j') inl (λ t. inr (wider k t))) (λ t. inr (k, z, omega arith, l, sym i ∙ sym t.0, sym o ∙ sym t.1))),
    λ e. cases e (λ c. (f x y).1 (inl ((h x y).1 (inl c)))) λ t. cases (cases_eq t.0 k)
        (λ d. (f x y).1 (inr (sym t.4 ∙ ap s.sink d ∙ sym i, sym t.5 ∙ ap s.source d ∙ sym o, omega (arith, i), omega (arith, o))))
        (λ d. (f x y).1 (inl ((h x y).1 (inr (t.0, t.1, omega (arith, d, t.2), t.3, t.4, t.5))))),
  )
