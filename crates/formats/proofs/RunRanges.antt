-- The lowest number outside its range, over the sections of a run file.
use Rattle.std.proofs.Common.{ℕ, List, Some, None, Option, arith, MatchOption}
use Rattle.records.specs.Kinds.{copy_kind, step_kind, run_edge_kind}
use Rattle.formats.specs.Sections.{Inside, Outside, Lowest}
use Rattle.formats.specs.RunFiles.{c_of, v_of, e_of, copies_from, steps_from, run_edges_from, run_bounds, RunInside, RunNumberOutside, of_copies, of_steps, of_run_edges}
use Rattle.formats.proofs.Ranges.{outside_low, outside_high, none_outside}

-- section by section: those before hold nothing outside, and those after stand higher
module _ (n b : ℕ) (bytes : List ℕ) where
  abbrev CopiesOut : ℕ → Type 0
  CopiesOut = Outside copy_kind (run_bounds n b bytes) bytes (copies_from bytes) (c_of bytes)

  abbrev StepsOut : ℕ → Type 0
  StepsOut = Outside step_kind (run_bounds n b bytes) bytes (steps_from bytes) (v_of bytes)

  abbrev EdgesOut : ℕ → Type 0
  EdgesOut = Outside run_edge_kind (run_bounds n b bytes) bytes (run_edges_from bytes) (e_of bytes)

  abbrev CopiesIn : Type 0
  CopiesIn = Inside copy_kind (run_bounds n b bytes) bytes (copies_from bytes) (c_of bytes)

  abbrev StepsIn : Type 0
  StepsIn = Inside step_kind (run_bounds n b bytes) bytes (steps_from bytes) (v_of bytes)

  abbrev EdgesIn : Type 0
  EdgesIn = Inside run_edge_kind (run_bounds n b bytes) bytes (run_edges_from bytes) (e_of bytes)

  pub lowest_copies : {p : ℕ} → Lowest CopiesOut p → Lowest (RunNumberOutside n b bytes) p
  lowest_copies l = (
    of_copies l.0,
    λ q h. elim [
      | of_copies o ↦ l.1 q h o
      | of_steps o ↦ omega (arith, outside_high l.0, outside_low o)
      | of_run_edges o ↦ omega (arith, outside_high l.0, outside_low o)
    ],
  )

  pub lowest_steps : {p : ℕ} → CopiesIn → Lowest StepsOut p → Lowest (RunNumberOutside n b bytes) p
  lowest_steps a l = (
    of_steps l.0,
    λ q h. elim [
      | of_copies o ↦ none_outside a o
      | of_steps o ↦ l.1 q h o
      | of_run_edges o ↦ omega (arith, outside_high l.0, outside_low o)
    ],
  )

  lowest_run_edges : {p : ℕ} → CopiesIn → StepsIn → Lowest EdgesOut p → Lowest (RunNumberOutside n b bytes) p
  lowest_run_edges a s l = (
    of_run_edges l.0,
    λ q h. elim [
      | of_copies o ↦ none_outside a o
      | of_steps o ↦ none_outside s o
      | of_run_edges o ↦ l.1 q h o
    ],
  )

  pub run_done : (r : Option ℕ) → CopiesIn → StepsIn → MatchOption r EdgesIn (Lowest EdgesOut) → MatchOption r (RunInside n b bytes) (Lowest (RunNumberOutside n b bytes))
  run_done None a s d = record { copies_inside = a; steps_inside = s; run_edges_inside = d }
  run_done (Some p) a s d = lowest_run_edges a s d
