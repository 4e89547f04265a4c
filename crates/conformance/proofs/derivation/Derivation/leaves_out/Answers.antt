use Rattle.std.proofs.Common.{T, arith, rules}
use Rattle.records.proofs.Chains.{any_in_range}
use Rattle.model.specs.Runs.{Derived}
use Rattle.conformance.specs.Trials.{trial_run, trial_spec}
use Rattle.conformance.proofs.derivation.Derivation.leaves_out.Goals as goal

pub returns : goal.returns
returns c =
    let t = c.args.self.now.trial in
    let u = c.args.u in
    let h = any_in_range _ _ _ c.any.result (λ w. Derived (trial_spec t) (trial_run t) u w × (¬ (T ((trial_run t).listed u w)))) c.any.ensures.ran
    (λ x q k. search rules) (λ x q k. search rules) in
    (λ b. let w = h.0 b in (w.0, w.3.0, w.3.1), λ x. h.1 (x.0, omega arith, omega (arith, x.1.head_range, c.steps.ensures), (x.1, x.2)))
