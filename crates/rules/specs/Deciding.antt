-- That the refusals of sealing leave no doubt.
use Rattle.std.specs.Prelude.{◌≡◌}
use Rattle.model.specs.Specifications.{Spec, Sealed}
use Rattle.formats.specs.declared.faults.Fault.{Fault}
use Rattle.rules.specs.Unsealed.{Unsealed}

-- no specification is both sealed and refused, and none is refused in two ways
pub record Decided (s : Spec) : Type 0 where
  pub never_both : Sealed s → (f : Fault) → ¬ (Unsealed s f)
  pub one_fault : (f g : Fault) → Unsealed s f → Unsealed s g → f ≡ g

abbrev pub SealingLaw : Type 0
SealingLaw = (s : Spec) → Decided s
