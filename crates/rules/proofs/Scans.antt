-- What chains over the numbers below n, the vertices of a row and the edges of a list tell.
use Rattle.std.proofs.Common.{ℕ, ◌<◌, ◌≤◌, Bool, T, ◌↔◌, List, length, get_or, subst, arith, Option, Some, None, MatchOption}
use Rattle.std.proofs.lemmas.List.{get_or_default}
use Rattle.formats.specs.Sections.{Lowest}
use Rattle.formats.specs.Specifications.{no_edge, listed}
use Rattle.records.specs.declared.kinds.SpecEdge.{SpecEdge}
use Rattle.graphs.proofs.Rows.{holds_range}
use Rattle.graphs.specs.Rows.{Holds, vertices}
use Rattle.graphs.specs.declared.row.Row.{Row}
use Rattle.rules.proofs.Ranges.{listed_at, at_listed}

-- a test that tells P tells Q, which says the same
pub told : (r : Bool) {P Q : Type 0} → T r ↔ P → P ↔ Q → T r ↔ Q
told r a b = ((λ t. b.0 (a.0 t)), λ q. a.1 (b.1 q))

pub all_below : (r : Bool) (n : ℕ) (P : ℕ → Type 0) → T r ↔ ((k : ℕ) → 0 ≤ k → k < n → P k) → T r ↔ ((k : ℕ) → k < n → P k)
all_below r n P w = ((λ t k l. w.0 t k (omega arith) l), λ f. w.1 (λ k z l. f k l))

pub all_held : (r : Bool) (row : Row) (P : ℕ → Type 0) → T r ↔ ((k : ℕ) → 0 ≤ k → k < vertices → Holds row k → P k) → T r ↔ ((k : ℕ) → Holds row k → P k)
all_held r row P w = ((λ t k h. w.0 t k (omega arith) (holds_range row k h) h), λ f. w.1 (λ k z l h. f k h))

pub all_edges : (r : Bool) (es : List SpecEdge) (P : ℕ → ℕ → Type 0) → T r ↔ ((i : ℕ) (d : SpecEdge) → i < length es → P (get_or es i d).tail (get_or es i d).head)
    → T r ↔ ((x y : ℕ) → T (listed es x y) → P x y)
all_edges r es P w = (
  (λ t x y l. let i = listed_at es x y l in subst (λ (a : ℕ). P a y) i.2 (subst (λ (b : ℕ). P (get_or es i.0 no_edge).tail b) i.3 (w.0 t i.0 no_edge i.1))),
  λ f. w.1 (λ i d h. subst (λ (e : SpecEdge). P e.tail e.head) (get_or_default es i no_edge d h) (f _ _ (at_listed es i h))),
)

-- the lowest number below n of which P holds; Q where there is none
pub lowest_below : (n : ℕ) (P : ℕ → Type 0) (Q : Type 0) → (((k : ℕ) → k < n → ¬ (P k)) → Q) → (o : Option ℕ)
    → MatchOption o ((k : ℕ) → 0 ≤ k → k < n → ¬ (P k)) (λ i. (0 ≤ i) × (i < n) × P i × ((k : ℕ) → 0 ≤ k → k < i → ¬ (P k))) → MatchOption o Q (Lowest P)
lowest_below n P Q f None w = f (λ k l. w k (omega arith) l)
lowest_below n P Q f (Some x) w = (w.2, λ k l. w.3 k (omega arith) l)
