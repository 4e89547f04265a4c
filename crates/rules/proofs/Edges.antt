-- Edges by their index in the list, and what is gathered from them one by one.
use Rattle.std.proofs.Common.{◌≡◌, ℕ, ◌+◌, ◌<◌, T, ◌⊎◌, ◌↔◌, List, length, sym, refl, ◌∙◌, subst, inl, inr, arith}
use Rattle.std.proofs.lemmas.Bool.{cases_eq}
use Rattle.formats.specs.Specifications.{listed}
use Rattle.records.specs.declared.kinds.SpecEdge.{SpecEdge}
use Rattle.graphs.specs.Graphs.{Joins}
use Rattle.graphs.specs.Rows.{vertices}
use Rattle.graphs.specs.Graphs.{Graph}
use Rattle.rules.specs.Parts.{tail_at, head_at}
use Rattle.rules.proofs.Ranges.{listed_at, at_listed}

-- the graph has the first n edges
abbrev pub HasFirst : List SpecEdge → Graph → ℕ → Type 0
HasFirst es g n = (x y : ℕ) → Joins g x y ↔ ((i : ℕ) × (i < n) × (tail_at es i ≡ x) × (head_at es i ≡ y))

module _ (es : List SpecEdge) (g : Graph) where
  pub first_more : (g' : Graph) (n : ℕ) → HasFirst es g n → tail_at es n < vertices → head_at es n < vertices
      → ((a b : ℕ) → Joins g' a b ↔ (Joins g a b ⊎ ((a ≡ tail_at es n) × (b ≡ head_at es n) × (tail_at es n < vertices) × (head_at es n < vertices)))) → HasFirst es g' (n + 1)
  first_more g' n f t h k x y = (
    (λ j. elim ((k x y).0 j) [
      | inl a ↦ let w = (f x y).0 a in (w.0, omega (arith, w.1), w.2, w.3)
      | inr a ↦ (n, omega arith, sym a.0, sym a.1)
    ]),
    λ w. elim (cases_eq w.0 n) [
      | inl e ↦ (k x y).1 (inr (sym w.2 ∙ subst (λ (i : ℕ). tail_at es w.0 ≡ tail_at es i) e refl, sym w.3 ∙ subst (λ (i : ℕ). head_at es w.0 ≡ head_at es i) e refl, t, h))
      | inr d ↦ (k x y).1 (inl ((f x y).1 (w.0, omega (arith, w.1, d), w.2, w.3)))
    ],
  )

  pub first_all : HasFirst es g (length es) → (x y : ℕ) → Joins g x y ↔ T (listed es x y)
  first_all f x y = (
    (λ j. let w = (f x y).0 j in subst (λ (v : ℕ). T (listed es x v)) w.3 (subst (λ (v : ℕ). T (listed es v (head_at es w.0))) w.2 (at_listed es w.0 w.1))),
    λ t. (f x y).1 (listed_at es x y t),
  )
