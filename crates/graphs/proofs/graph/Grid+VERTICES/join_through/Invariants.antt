use Rattle.std.proofs.Common.{◌≡◌, ℕ, ◌<◌, ◌≤◌, ◌⊎◌, ◌↔◌, List, length, get_or}
use Rattle.graphs.specs.declared.row.Row.{Row}
use Rattle.graphs.specs.Rows.{Holds}
use Rattle.graphs.specs.Grids.{none}
use Rattle.graphs.proofs.graph.Grid+VERTICES.join_through.Given as goal

-- the rows below i have via joined to them where they hold k, the others are as they were
pub record Widening (first : List Row) (via : Row) (k : ℕ) (rows : List Row) (i : ℕ) : Type 0 where
  pub long : length rows ≡ length first
  pub done : (x : ℕ) → x < i → (y : ℕ) → Holds (get_or rows x none) y ↔ (Holds (get_or first x none) y ⊎ (Holds (get_or first x none) k × Holds via y))
  pub rest : (x : ℕ) → i ≤ x → get_or rows x none ≡ get_or first x none

abbrev pub invariant-loop-row : goal.invariant-loop-row
invariant-loop-row l = Widening l.initial.row-items l.via l.k l.row-items l.row-index
