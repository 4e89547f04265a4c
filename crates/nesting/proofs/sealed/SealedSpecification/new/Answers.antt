use Rattle.std.proofs.Common.{sym, subst}
use Rattle.model.specs.Specifications.{Sealed}
use Rattle.rules.proofs.SealedLaws.{trivial_sealed, trivial_of}
use Rattle.nesting.proofs.sealed.SealedSpecification.new.Goals as goal

pub invariant_of-result : goal.invariant_of-result
invariant_of-result c =
    let e = c.new-specification.ensures in
    record { sealed = ∣ subst Sealed (sym (trivial_of c.new-specification.result e.0 e.1 e.2 e.3)) trivial_sealed ∣₁ }
