use Rattle.std.proofs.Common.{◌≡◌, arith, rules}
use Rattle.model.specs.Runs.{Run}
use Rattle.model.specs.Specifications.{Spec}
use Rattle.graphs.specs.Grids.{Marks}
use Rattle.records.proofs.Chains.{any_in_range}
use Rattle.conformance.specs.Trials.{trial_run, trial_spec}
use Rattle.conformance.proofs.trial.Trial.lacks_step.Goals as goal

pub returns : goal.returns
returns c =
    let s : Spec = trial_spec c.args.self in
    let r : Run = trial_run c.args.self in
    let i = c.args.i in
    let h = any_in_range _ _ _ c.any.result (λ x. (s.home x ≡ r.block i) × (¬ (Marks c.args.grid.now i x))) c.any.ensures.ran (λ x q k. search rules) (λ x q k. search rules) in
    (λ t. let x = h.0 t in (x.0, omega (arith, x.2, c.vertices.ensures), x.3.0, x.3.1), λ w. h.1 (w.0, omega arith, omega (arith, w.1, c.vertices.ensures), (w.2, w.3)))
