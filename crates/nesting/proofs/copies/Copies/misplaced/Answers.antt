use Rattle.std.proofs.Common.{◌≡◌, refl, rules}
use Rattle.model.specs.Runs.{Run}
use Rattle.model.specs.Specifications.{Spec}
use Rattle.formats.specs.Of.{spec_of}
use Rattle.formats.specs.RunFiles.{run_of}
use Rattle.nesting.proofs.Finding.{lowest_failing}
use Rattle.nesting.proofs.copies.Copies.misplaced.Goals as goal

pub returns : goal.returns
returns c =
    let s : Spec = spec_of c.args.self.specification.now in
    let r : Run = run_of c.args.self.run.bytes.now in
    lowest_failing _ _ _ _ (λ i. r.block (r.parent i) ≡ s.above (r.block i)) refl c.copies.ensures c.find.ensures.ran (λ x q k. search rules) (λ x q k. search rules)
