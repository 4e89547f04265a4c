-- Run files: where their numbers stand, which run they state, and what they are held against.
use Rattle.std.specs.Prelude.{ℕ, ◌+◌, ◌*◌, List, [], ◌∷◌}
use Rattle.model.specs.Runs.{Run}
use Rattle.records.specs.Kinds.{copy_kind, step_kind, run_edge_kind}
use Rattle.records.specs.declared.kinds.RunCopy.{RunCopy}
use Rattle.records.specs.declared.kinds.Step.{Step}
use Rattle.records.specs.declared.kinds.RunEdge.{RunEdge}
use Rattle.records.specs.declared.record.Bounds.{Bounds}
use Rattle.formats.specs.Files.{Format, FramedOf, AcceptedOf, RefusedOf}
use Rattle.formats.specs.Runs.{made_copy, made_step, made_run_edge, run_from}
use Rattle.formats.specs.Sections.{Inside, Outside, section}
use Rattle.formats.specs.Words.{word}
use Rattle.formats.specs.declared.faults.Fault.{Fault}

-- the three sizes: c copies, v steps, e edges
abbrev pub c_of : List ℕ → ℕ
c_of bytes = word bytes 0

abbrev pub v_of : List ℕ → ℕ
v_of bytes = word bytes 2

abbrev pub e_of : List ℕ → ℕ
e_of bytes = word bytes 4

-- where the three sections start, after the sizes: copies, steps, edges
abbrev pub copies_from : List ℕ → ℕ
copies_from bytes = 6

abbrev pub steps_from : List ℕ → ℕ
steps_from bytes = 6 + 4 * c_of bytes

abbrev pub run_edges_from : List ℕ → ℕ
run_edges_from bytes = 6 + 4 * (c_of bytes + v_of bytes)

-- how long the sizes say that the file is
abbrev pub run_length : List ℕ → ℕ
run_length bytes = 6 + 4 * (c_of bytes + v_of bytes + e_of bytes)

-- in a run of a specification with n vertices and b blocks, vertices lie below n and blocks below b, copies below c and steps below v
abbrev pub run_bounds : ℕ → ℕ → List ℕ → Bounds
run_bounds n b bytes = record { vertices = n; blocks = b; copies = c_of bytes; steps = v_of bytes }

-- every number of the three sections lies in its range
pub record RunInside (n b : ℕ) (bytes : List ℕ) : Type 0 where
  pub copies_inside : Inside copy_kind (run_bounds n b bytes) bytes (copies_from bytes) (c_of bytes)
  pub steps_inside : Inside step_kind (run_bounds n b bytes) bytes (steps_from bytes) (v_of bytes)
  pub run_edges_inside : Inside run_edge_kind (run_bounds n b bytes) bytes (run_edges_from bytes) (e_of bytes)

-- p is the byte position of a number outside its range, in any section
pub data RunNumberOutside (n b : ℕ) (bytes : List ℕ) (p : ℕ) : Type 0 where
  of_copies : Outside copy_kind (run_bounds n b bytes) bytes (copies_from bytes) (c_of bytes) p → RunNumberOutside n b bytes p
  of_steps : Outside step_kind (run_bounds n b bytes) bytes (steps_from bytes) (v_of bytes) p → RunNumberOutside n b bytes p
  of_run_edges : Outside run_edge_kind (run_bounds n b bytes) bytes (run_edges_from bytes) (e_of bytes) p → RunNumberOutside n b bytes p

-- the format of run files, held against n vertices and b blocks: sizes c, v, e
abbrev pub run_format : ℕ → ℕ → Format
run_format n b = record {
  first = copy_kind;
  second = step_kind;
  third = run_edge_kind;
  long = run_length;
  AllIn = RunInside n b;
  OutAt = RunNumberOutside n b;
  base = run_edges_from;
  count = e_of;
}

-- sizes and length are right, which does not depend on n and b; the file is accepted; it is refused with this fault
abbrev pub RunFramed : List ℕ → Type 0
RunFramed bytes = FramedOf (run_format 0 0) bytes

abbrev pub RunAccepted : ℕ → ℕ → List ℕ → Type 0
RunAccepted n b bytes = AcceptedOf (run_format n b) bytes

abbrev pub RunRefused : ℕ → ℕ → List ℕ → Fault → Type 0
RunRefused n b bytes f = RefusedOf (run_format n b) bytes f

-- the records of the three sections
abbrev pub copies_of : List ℕ → List RunCopy
copies_of bytes = section made_copy bytes (copies_from bytes) (c_of bytes)

abbrev pub steps_of : List ℕ → List Step
steps_of bytes = section made_step bytes (steps_from bytes) (v_of bytes)

abbrev pub run_edges_of : List ℕ → List RunEdge
run_edges_of bytes = section made_run_edge bytes (run_edges_from bytes) (e_of bytes)

-- the run whose numbers stand in the file
abbrev pub run_of : List ℕ → Run
run_of bytes = run_from (copies_of bytes) (steps_of bytes) (run_edges_of bytes)

-- the trivial run: copy 0, and one step with context 0 and origin 0
abbrev pub trivial_run : List ℕ
trivial_run = 1 ∷ 0 ∷ 1 ∷ 0 ∷ 0 ∷ 0 ∷ 0 ∷ 0 ∷ 0 ∷ 0 ∷ 0 ∷ 0 ∷ 0 ∷ 0 ∷ []
