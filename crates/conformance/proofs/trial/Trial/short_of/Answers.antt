use Rattle.std.proofs.Common.{arith, rules}
use Rattle.model.specs.Runs.{Run}
use Rattle.model.specs.Specifications.{Spec}
use Rattle.graphs.specs.declared.grid.Grid.{Grid}
use Rattle.nesting.proofs.Finding.{lowest_found}
use Rattle.records.specs.Kinds.{copy_kind}
use Rattle.conformance.specs.Nonconforming.{ShortOf, Stepped}
use Rattle.conformance.specs.Steps.{Unmarked}
use Rattle.conformance.specs.Trials.{trial_run, trial_spec}
use Rattle.conformance.proofs.Marking.{short_of_unmarked, unmarked_of_short, stepped_of}
use Rattle.conformance.proofs.trial.Trial.short_of.Goals as goal

pub returns : goal.returns
returns c =
    let s : Spec = trial_spec c.args.self in
    let r : Run = trial_run c.args.self in
    let g : Grid copy_kind.ceiling = c.args.grid.now in
    lowest_found _ _ _ _ (Unmarked s r g) (λ i. ¬ (Unmarked s r g i)) (ShortOf s r) (Stepped s r) c.find.ensures.ran (λ x q k. search rules) (λ x q k. search rules)
    (λ h. stepped_of s r g c.requires (λ i l. h i (omega arith) (omega (arith, c.copies.ensures))))
    (λ i a l u. short_of_unmarked s r g c.requires (omega (arith, c.copies.ensures)) u) (λ i p. (omega arith, λ f. f (unmarked_of_short s r g c.requires p)))
