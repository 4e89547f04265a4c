-- The laws over runs and labels.
use Rattle.std.specs.Prelude.{◌≡◌, ℕ, ◌<◌, Bool, T, ◌≢◌, ◌⊎◌, ◌↔◌, List, length}
use Rattle.model.specs.Paths.{Path⁺, Path*}
use Rattle.model.specs.Specifications.{Spec, Sealed}
use Rattle.model.specs.Runs.{Run, Conforms}
use Rattle.model.specs.Relating.{Rel}
use Rattle.model.specs.Orders.{Before, Position}
use Rattle.model.specs.Listings.{Stands, Listing}
use Rattle.model.specs.Labels.{Label, Labelled, Reaches, Yes, Answer}

-- the run lists the edge from step u to step w
abbrev pub Listed : Run → ℕ → ℕ → Type 0
Listed r u w = T (r.listed u w)

-- a path of the run's edges leads from u to w exactly when the relation of contexts and origins holds
abbrev pub PathLaw : Type 0
PathLaw = (s : Spec) (r : Run) → Sealed s → Conforms s r → (u w : ℕ) → u < r.v → w < r.v → Path* (Listed r) u w ↔ Rel s r u w

-- The order o is a strict total order of the copies. Each copy has a position, one only, below c; positions go as the order, and no two
-- copies share one.
pub record Ordered (s : Spec) (r : Run) (o : ℕ → Bool) : Type 0 where
  pub never : (i : ℕ) → ¬ (Before s r o i i)
  pub through : (i j k : ℕ) → Before s r o i j → Before s r o j k → Before s r o i k
  pub total : (i j : ℕ) → (i ≡ j) ⊎ (Before s r o i j ⊎ Before s r o j i)
  pub some_position : (i : ℕ) → i < r.c → (q : ℕ) × (q < r.c) × Position s r o i q
  pub one_position : (i q q' : ℕ) → Position s r o i q → Position s r o i q' → q ≡ q'
  pub goes_as : (i j q q' : ℕ) → i < r.c → j < r.c → Position s r o i q → Position s r o j q' → Before s r o i j ↔ (q < q')
  pub same_copy : (i j q : ℕ) → i < r.c → j < r.c → Position s r o i q → Position s r o j q → i ≡ j

-- every order is such an order, those numbered 1, 2 and 3 among them
abbrev pub OrderLaw : Type 0
OrderLaw = (s : Spec) (r : Run) → Sealed s → Conforms s r → (o : ℕ → Bool) → Ordered s r o

-- The order o can be written out, each copy directly followed by all that lies under it, in one way only. The list is as long as there are
-- copies, and the position of a copy, which counts the copies before it, is its place in the list.
pub record Written (s : Spec) (r : Run) (o : ℕ → Bool) : Type 0 where
  pub some_listing : (l : List ℕ) × Listing s r o l
  pub one_listing : (l l' : List ℕ) → Listing s r o l → Listing s r o l' → l ≡ l'
  pub as_long : (l : List ℕ) → Listing s r o l → length l ≡ r.c
  pub position_place : (l : List ℕ) → Listing s r o l → (i q : ℕ) → i < r.c → Position s r o i q ↔ Stands l q i

abbrev pub ListingLaw : Type 0
ListingLaw = (s : Spec) (r : Run) → Sealed s → Conforms s r → (o : ℕ → Bool) → Written s r o

-- every step has a label, and one only
abbrev pub OneLabelLaw : Type 0
OneLabelLaw = (s : Spec) (r : Run) → Sealed s → Conforms s r → (u : ℕ) → u < r.v
    → (A : Label) × Labelled s r u A × ((B : Label) → Labelled s r u B → B ≡ A)

-- two steps have two labels
abbrev pub ApartLaw : Type 0
ApartLaw = (s : Spec) (r : Run) → Sealed s → Conforms s r → (u w : ℕ) → u < r.v → w < r.v
    → (A : Label) → Labelled s r u A → Labelled s r w A → u ≡ w

-- the question rule on the labels of u and w says yes exactly when a path leads from u to w
abbrev pub LabelLaw : Type 0
LabelLaw = (s : Spec) (r : Run) → Sealed s → Conforms s r → (u w : ℕ) → u < r.v → w < r.v
    → (A B : Label) → Labelled s r u A → Labelled s r w B → Path* (Listed r) u w ↔ Yes A B (Reaches s A B)

-- for paths of one or more edges the rule leaves out a step itself, which it knows by its label
abbrev pub AfterLaw : Type 0
AfterLaw = (s : Spec) (r : Run) → Sealed s → Conforms s r → (u w : ℕ) → u < r.v → w < r.v
    → (A B : Label) → Labelled s r u A → Labelled s r w B → Path⁺ (Listed r) u w ↔ ((A ≢ B) × Yes A B (Reaches s A B))

-- the question rule on A and B comes to an answer, and to no other; `reach` is what the skeleton question is answered with
pub record Answered (A B : Label) (reach : Bool) : Type 0 where
  pub says_yes : Bool
  pub comparisons : ℕ
  pub questions : ℕ
  pub the_answer : Answer A B (T reach) says_yes comparisons questions
  pub no_other : (y : Bool) (c q : ℕ) → Answer A B (T reach) y c q → (y ≡ says_yes) × (c ≡ comparisons) × (q ≡ questions)

abbrev pub RuleLaw : Type 0
RuleLaw = (A B : Label) (reach : Bool) → Answered A B reach

-- the answer to the labels of u and w is yes exactly when a path leads from u to w
abbrev pub AnswerLaw : Type 0
AnswerLaw = (s : Spec) (r : Run) → Sealed s → Conforms s r → (u w : ℕ) → u < r.v → w < r.v
    → (A B : Label) → Labelled s r u A → Labelled s r w B
    → (y : Bool) (c q : ℕ) → Answer A B (Reaches s A B) y c q → T y ↔ Path* (Listed r) u w

-- r' is r grown: f and g give each copy and each step of r its counterpart in r', with block, parent, context and origin kept, and
-- the order within each group
pub record Grown (r r' : Run) (f g : ℕ → ℕ) : Type 0 where
  pub copy_there : (i : ℕ) → i < r.c → f i < r'.c
  pub step_there : (u : ℕ) → u < r.v → g u < r'.v
  pub own_copy : (i j : ℕ) → i < r.c → j < r.c → f i ≡ f j → i ≡ j
  pub own_step : (u w : ℕ) → u < r.v → w < r.v → g u ≡ g w → u ≡ w
  pub keeps_block : (i : ℕ) → i < r.c → r'.block (f i) ≡ r.block i
  pub keeps_parent : (i : ℕ) → i < r.c → r'.parent (f i) ≡ f (r.parent i)
  pub keeps_origin : (u : ℕ) → u < r.v → r'.origin (g u) ≡ r.origin u
  pub keeps_context : (u : ℕ) → u < r.v → r'.context (g u) ≡ f (r.context u)
  pub keeps_order : (i j : ℕ) → i < r.c → j < r.c → 0 < i → 0 < j → r.parent i ≡ r.parent j → r.block i ≡ r.block j → i < j → f i < f j

-- two steps and their counterparts in a run that grew get one answer, with the same counts
abbrev pub GrowthLaw : Type 0
GrowthLaw = (s : Spec) (r r' : Run) (f g : ℕ → ℕ) → Sealed s → Conforms s r → Conforms s r' → Grown r r' f g
    → (u w : ℕ) → u < r.v → w < r.v
    → (A B A' B' : Label) → Labelled s r u A → Labelled s r w B → Labelled s r' (g u) A' → Labelled s r' (g w) B'
    → (y y' : Bool) (c c' q q' : ℕ) → Answer A B (Reaches s A B) y c q → Answer A' B' (Reaches s A' B') y' c' q'
    → (y ≡ y') × (c ≡ c') × (q ≡ q')
