use Rattle.std.proofs.Common.{sym, subst, arith, rules}
use Rattle.records.proofs.Chains.{lowest_in_range}
use Rattle.rules.proofs.Scans.{lowest_below}
use Rattle.conformance.specs.Nonconforming.{Unlisted}
use Rattle.conformance.specs.Trials.{trial_run, trial_spec}
use Rattle.conformance.proofs.derivation.Derivation.unlisted.Goals as goal

pub returns : goal.returns
returns c =
    let t = c.args.self.now.trial in
    let P = Unlisted (trial_spec t) (trial_run t) in
    lowest_below c.steps.result P _ (λ h u x. h u (omega (arith, x.1.tail_range, c.steps.ensures)) x) c.find.result
    (lowest_in_range _ _ _ c.find.result P c.find.ensures.ran
    (λ x q k. search rules)
    (λ x q k. let none : ¬ (P k.shown.now) = search rules in (search rules, λ p. none (subst P (sym k.shows) p))))
