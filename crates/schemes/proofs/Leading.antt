-- The test that joins through one vertex after another says whether a path leads from one to the other.
use Rattle.std.proofs.Common.{ℕ, zero, suc, ◌<◌, Bool, ◌&&◌, T, ◌⊎◌, ◌↔◌, subst, inl, inr, add-one}
use Rattle.model.specs.Paths.{Path*}
use Rattle.model.specs.Specifications.{Spec, Edge}
use Rattle.model.proofs.Tests.{and_so, and_thus, or_so, or_thus}
use Rattle.graphs.proofs.Closing.{Closing, closing_none, closing_more, closing_all}
use Rattle.schemes.specs.Walkers.{leads, reach_test}
use Rattle.schemes.proofs.Reaching.{reach_by}

module _ (edge : ℕ → ℕ → Bool) where
  abbrev Edged : ℕ → ℕ → Type 0
  Edged x y = T (edge x y)

  abbrev Leads : ℕ → ℕ → ℕ → Type 0
  Leads k x y = T (leads edge k x y)

  leads_more : (k x y : ℕ) → Leads (suc k) x y ↔ (Leads k x y ⊎ (Leads k x k × Leads k k y))
  unfolding leads
  leads_more k x y =
      let a = leads edge k x y in
      let b = leads edge k x k in
      let c = leads edge k k y in (
        (λ t. elim (or_so a (b && c) t) [ inl h ↦ inl h | inr h ↦ inr (and_so b c h) ]),
        λ s. or_thus a (b && c) (elim s [ inl h ↦ inl h | inr h ↦ inr (and_thus b c h.0 h.1) ]),
      )

  leads_closing : (k : ℕ) → Closing Edged (Leads k) k
  unfolding leads
  leads_closing zero = closing_none Edged
  leads_closing (suc k) = subst (λ (n : ℕ). Closing Edged (Leads (suc k)) n) (add-one k) (closing_more Edged (Leads k) (Leads (suc k)) k (leads_closing k) (leads_more k))

-- where edges start at vertices
pub reach_law : (s : Spec) → ((x y : ℕ) → Edge s x y → x < s.n) → (x y : ℕ) → T (reach_test s x y) ↔ Path* (Edge s) x y
reach_law s range x y = reach_by (Edge s) x y (leads s.edge s.n x y) (closing_all (Edge s) (λ a b. T (leads s.edge s.n a b)) s.n range (leads_closing s.edge s.n) x y)
