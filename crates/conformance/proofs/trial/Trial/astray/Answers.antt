use Rattle.std.proofs.Common.{◌≡◌, refl, rules}
use Rattle.model.specs.Runs.{Run}
use Rattle.model.specs.Specifications.{Spec}
use Rattle.nesting.proofs.Finding.{lowest_failing}
use Rattle.conformance.specs.Trials.{trial_run, trial_spec}
use Rattle.conformance.proofs.trial.Trial.astray.Goals as goal

pub returns : goal.returns
returns c =
    let s : Spec = trial_spec c.args.self in
    let r : Run = trial_run c.args.self in
    lowest_failing _ _ _ _ (λ u. s.home (r.origin u) ≡ r.block (r.context u)) refl c.steps.ensures c.find.ensures.ran (λ x q k. search rules) (λ x q k. search rules)
