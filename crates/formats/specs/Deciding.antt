-- That the refusals of a specification file leave no doubt, and the same of run files.
use Rattle.std.specs.Prelude.{ℕ, List}
use Rattle.formats.specs.Files.{DecidedOf}
use Rattle.formats.specs.RunFiles.{run_format}
use Rattle.formats.specs.SpecFiles.{spec_format}

-- no file is both accepted and refused, and none is refused in two ways
abbrev pub Decided : List ℕ → Type 0
Decided bytes = DecidedOf spec_format bytes

abbrev pub ReadingLaw : Type 0
ReadingLaw = (bytes : List ℕ) → Decided bytes

-- the same of run files, held against any numbers of vertices and blocks
abbrev pub RunReadingLaw : Type 0
RunReadingLaw = (n b : ℕ) (bytes : List ℕ) → DecidedOf (run_format n b) bytes
