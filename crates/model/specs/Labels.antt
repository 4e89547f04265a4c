-- Labels and the question rule.
use Rattle.std.specs.Prelude.{◌≡◌, ℕ, ◌<◌, Bool, false, T, ◌≢◌, ◌⊎◌, ◌↔◌}
use Rattle.model.specs.Paths.{Path*}
use Rattle.model.specs.Specifications.{Spec, Edge}
use Rattle.model.specs.Runs.{Run}
use Rattle.model.specs.Orders.{order1, order2, order3, Position}

-- The label of a step among the steps of its run: three positions and a vertex. (A label that is handed out also carries the number of
-- the run's entry; the question rule, which is put to two labels of one entry, does not look at it.)
pub record Label : Type 0 where
  pub q1 : ℕ
  pub q2 : ℕ
  pub q3 : ℕ
  pub vertex : ℕ

-- A is the label of step u: the positions of its context in orders 1, 2 and 3, and its origin
pub record Labelled (sp : Spec) (r : Run) (u : ℕ) (A : Label) : Type 0 where
  pub at1 : Position sp r order1 (r.context u) A.q1
  pub at2 : Position sp r order2 (r.context u) A.q2
  pub at3 : Position sp r order3 (r.context u) A.q3
  pub is_vertex : A.vertex ≡ r.origin u

-- what the skeleton question on the labels A and B asks: does a path of zero or more edges of the specification lead from A's vertex to B's
abbrev pub Reaches : Spec → Label → Label → Type 0
Reaches sp A B = Path* (Edge sp) A.vertex B.vertex

-- b and b' fall strictly the other way than a and a'
abbrev pub Other : ℕ → ℕ → ℕ → ℕ → Type 0
Other a a' b b' = ((a < a') × (b' < b)) ⊎ ((a' < a) × (b < b'))

-- The question rule, for labels A and B. Compare q1; if equal, put the skeleton question on the two vertices. Else compare q2; if it falls
-- strictly the other way than q1, the answer is no. Else compare q3; if strictly the other way, the answer is yes exactly when A's q1 is
-- the smaller. Else put the skeleton question. The answer is three things together: yes or no, comparisons made, skeleton questions put.
-- `Reach` is what the skeleton question asks.
pub data Answer (A B : Label) (Reach : Type 0) : Bool → ℕ → ℕ → Type 0 where
  equal : {yes' : Bool} → A.q1 ≡ B.q1 → T yes' ↔ Reach → Answer A B Reach yes' 1 1
  forked : A.q1 ≢ B.q1 → Other A.q1 B.q1 A.q2 B.q2 → Answer A B Reach false 2 0
  looped : {yes' : Bool} → A.q1 ≢ B.q1 → (¬ (Other A.q1 B.q1 A.q2 B.q2)) → Other A.q1 B.q1 A.q3 B.q3
      → T yes' ↔ (A.q1 < B.q1) → Answer A B Reach yes' 3 0
  asked : {yes' : Bool} → A.q1 ≢ B.q1 → (¬ (Other A.q1 B.q1 A.q2 B.q2)) → (¬ (Other A.q1 B.q1 A.q3 B.q3))
      → T yes' ↔ Reach → Answer A B Reach yes' 3 1

-- the question rule says yes: the three ways to it
pub data Yes (A B : Label) (Reach : Type 0) : Type 0 where
  by_equal : A.q1 ≡ B.q1 → Reach → Yes A B Reach
  by_loop : A.q1 ≢ B.q1 → (¬ (Other A.q1 B.q1 A.q2 B.q2)) → Other A.q1 B.q1 A.q3 B.q3
      → A.q1 < B.q1 → Yes A B Reach
  by_reach : A.q1 ≢ B.q1 → (¬ (Other A.q1 B.q1 A.q2 B.q2)) → (¬ (Other A.q1 B.q1 A.q3 B.q3))
      → Reach → Yes A B Reach
