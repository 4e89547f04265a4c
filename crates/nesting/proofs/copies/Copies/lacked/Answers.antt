use Rattle.std.proofs.Common.{◌≡◌, length, ap, arith, rules}
use Rattle.model.specs.Runs.{Run}
use Rattle.model.specs.Specifications.{Spec}
use Rattle.formats.specs.Of.{spec_of}
use Rattle.formats.specs.RunFiles.{run_of}
use Rattle.nesting.specs.Copies.{Under, Lacks, Full}
use Rattle.nesting.proofs.Finding.{lowest_found}
use Rattle.nesting.proofs.copies.Copies.lacked.Goals as goal

pub returns : goal.returns
returns c =
    let s : Spec = spec_of c.args.self.specification.now in
    let r : Run = run_of c.args.self.run.bytes.now in
    let i = c.args.i in
    let n : length c.nests.result.now ≡ s.b = ap length c.nests.ensures in
    lowest_found _ _ _ _ (λ k. (s.above k ≡ r.block i) × (¬ (Under r i k))) (λ k. s.above k ≡ r.block i → Under r i k) (Lacks s r i) (Full s r i) c.find.ensures.ran
    (λ x q k. search rules) (λ x q k. search rules) (λ h k z l. h k z (omega arith)) (λ k z l y. (z, omega arith, y.0, y.1)) (λ k p. (p.0, λ f. p.3 (f p.2)))
