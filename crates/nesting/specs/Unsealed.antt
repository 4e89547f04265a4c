-- Why a specification file is not sealed.
use Rattle.std.specs.Prelude.{◌≡◌, ℕ, List}
use Rattle.formats.specs.Of.{spec_of}
use Rattle.formats.specs.SpecFiles.{Accepted, Refused, States}
use Rattle.formats.specs.declared.faults.Fault.{Fault}
use Rattle.formats.specs.declared.specification.Specification.{Specification}
use Rattle.rules.specs.Unsealed.{Unsealed}

-- The file is not read, and the place of the specification is as before; or it states one that is not sealed.
pub data NotSealed (bytes : List ℕ) (before after : Specification) (f : Fault) : Type 0 where
  not_read : Refused bytes f → after ≡ before → NotSealed bytes before after f
  read_only : Accepted bytes → States bytes after → Unsealed (spec_of after) f → NotSealed bytes before after f
