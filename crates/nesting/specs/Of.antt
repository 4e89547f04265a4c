-- The specification of the subject that a sealed specification of the code stands for.
use Rattle.model.specs.Specifications.{Spec}
use Rattle.formats.specs.Of.{spec_of}
use Rattle.nesting.specs.declared.sealed.SealedSpecification.{SealedSpecification}

abbrev pub sealed_spec_of : SealedSpecification → Spec
sealed_spec_of s = spec_of s.specification
