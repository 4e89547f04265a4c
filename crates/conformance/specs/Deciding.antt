-- When a run file is accepted against a specification, why it is refused, and that this leaves no doubt.
use Rattle.std.specs.Prelude.{◌≡◌, ℕ, List}
use Rattle.model.specs.Specifications.{Spec}
use Rattle.model.specs.Runs.{Conforms}
use Rattle.formats.specs.RunFiles.{run_of, RunAccepted, RunRefused}
use Rattle.formats.specs.declared.faults.Fault.{Fault}
use Rattle.formats.specs.declared.run_file.RunFile.{RunFile}
use Rattle.conformance.specs.Nonconforming.{Nonconforming}

-- the file is opened, and the run that it states conforms
pub record RunConforms (s : Spec) (bytes : List ℕ) : Type 0 where
  pub opened : RunAccepted s.n s.b bytes
  pub conforms : Conforms s (run_of bytes)

-- the file is not opened, or it is and the run that it states does not conform
pub data TurnedDown (s : Spec) (bytes : List ℕ) (f : Fault) : Type 0 where
  not_opened : RunRefused s.n s.b bytes f → TurnedDown s bytes f
  not_conforming : RunAccepted s.n s.b bytes → Nonconforming s bytes f → TurnedDown s bytes f

-- no file is both accepted and turned down, and none is turned down in two ways
pub record Decided (s : Spec) (bytes : List ℕ) : Type 0 where
  pub never_both : RunConforms s bytes → (f : Fault) → ¬ (TurnedDown s bytes f)
  pub one_fault : (f g : Fault) → TurnedDown s bytes f → TurnedDown s bytes g → f ≡ g

abbrev pub ConformanceLaw : Type 0
ConformanceLaw = (s : Spec) (bytes : List ℕ) → Decided s bytes

-- the view is of these bytes, opened against as many vertices and blocks as the specification has
abbrev pub Opened : Spec → List ℕ → RunFile → Type 0
Opened s bytes f = (f.bytes.now ≡ bytes) × (f.vertices ≡ s.n) × (f.blocks ≡ s.b)

-- what a place for a run file holds after a check: the file, if it is opened; else what it held before
pub record PlaceAfter (s : Spec) (bytes : List ℕ) (before after : RunFile) : Type 0 where
  pub held : RunAccepted s.n s.b bytes → Opened s bytes after
  pub left : (f : Fault) → RunRefused s.n s.b bytes f → after ≡ before
