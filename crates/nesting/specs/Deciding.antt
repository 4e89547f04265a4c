-- That the refusals of a run for the nesting of its copies leave no doubt.
use Rattle.std.specs.Prelude.{◌≡◌}
use Rattle.model.specs.Specifications.{Spec}
use Rattle.model.specs.Runs.{Run}
use Rattle.formats.specs.declared.faults.Fault.{Fault}
use Rattle.nesting.specs.Copies.{Follows, Filled, Misnested}

-- no run is both nested as the specification is and refused for it, and none is refused in two ways
pub record Decided (s : Spec) (r : Run) : Type 0 where
  pub never_both : Follows s r → Filled s r → (f : Fault) → ¬ (Misnested s r f)
  pub one_fault : (f g : Fault) → Misnested s r f → Misnested s r g → f ≡ g

abbrev pub CopiesLaw : Type 0
CopiesLaw = (s : Spec) (r : Run) → Decided s r
