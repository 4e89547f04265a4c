-- The orders written out: the list of all copies of a run in which each copy is directly followed by all that lies under it.
use Rattle.std.specs.Prelude.{◌≡◌, ℕ, ◌<◌, Bool, List, [], ◌∷◌, ◌++◌, length, slice_index}
use Rattle.model.specs.Specifications.{Spec}
use Rattle.model.specs.Runs.{Run}
use Rattle.model.specs.Orders.{Sooner}

-- copy i stands at place q of the list; places count from 0
abbrev pub Stands : List ℕ → ℕ → ℕ → Type 0
Stands l q i = (q < length l) × (slice_index l q ≡ i)

-- copy k lies directly under copy i
pub record Child (r : Run) (i k : ℕ) : Type 0 where
  pub in_run : k < r.c
  pub not_whole : 0 < k
  pub directly : r.parent k ≡ i

-- ks lists the copies directly under copy i, and nothing else. They come in the order o: groups in ascending block number, and within a
-- group ascending, or descending where the order has groups of that kind descend. As none comes sooner than itself, each is listed once.
pub record Children (sp : Spec) (r : Run) (o : ℕ → Bool) (i : ℕ) (ks : List ℕ) : Type 0 where
  pub only_children : (q k : ℕ) → Stands ks q k → Child r i k
  pub all_children : (k : ℕ) → Child r i k → (q : ℕ) × Stands ks q k
  pub in_order : (q q' k k' : ℕ) → Stands ks q k → Stands ks q' k' → q < q' → Sooner sp r o k k'

-- the copies of the first list, in turn, each directly followed by all that lies under it, make the second list
pub data Laid (sp : Spec) (r : Run) (o : ℕ → Bool) : List ℕ → List ℕ → Type 0 where
  nothing : Laid sp r o [] []
  copy : {i : ℕ} {ks below is rest : List ℕ} → Children sp r o i ks → Laid sp r o ks below → Laid sp r o is rest
      → Laid sp r o (i ∷ is) (i ∷ (below ++ rest))

-- l is the order o of the run's copies, written out: copy 0, directly followed by all that lies under it
abbrev pub Listing : Spec → Run → (ℕ → Bool) → List ℕ → Type 0
Listing sp r o l = Laid sp r o (0 ∷ []) l
