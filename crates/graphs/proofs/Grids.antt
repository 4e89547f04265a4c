-- Grids, of any number of rows.
use Rattle.std.proofs.Common.{ℕ, ◌<◌, ◌⊎◌, get_or, inl, inr, arith}
use Rattle.std.proofs.lemmas.Bool.{cases_lt}
use Rattle.graphs.specs.declared.grid.Grid.{Grid}
use Rattle.graphs.specs.Rows.{vertices}
use Rattle.graphs.specs.Grids.{none, Marks}
use Rattle.graphs.proofs.Rows.{holds_range, holds_or}

-- a pair in the set is in range
pub marks_range : {n : ℕ} (g : Grid n) (i x : ℕ) → Marks g i x → (i < n) × (x < vertices)
unfolding Marks
marks_range g i x m = (m.0, holds_range (get_or g.rows i none) x m.1)

-- a pair is in the set or not
pub marks_or : {n : ℕ} (g : Grid n) (i x : ℕ) → Marks g i x ⊎ (¬ (Marks g i x))
unfolding Marks
marks_or {n} g i x =
    elim (cases_lt i n) [
      | inl l ↦ elim (holds_or (get_or g.rows i none) x) [ inl h ↦ inl (l, h) | inr f ↦ inr (λ m. f m.1) ]
      | inr l ↦ inr (λ m. omega (arith, m.0))
    ]
