use Rattle.conformance.specs.Trials.{trial_run}
use Rattle.conformance.proofs.derivation.Derivation.has_edge.Goals as goal

pub returns : goal.returns
returns c =
    let d = c.args.self.now in
    let r = trial_run d.trial in
    let drawn = d.drawn (r.origin c.args.u) (r.origin c.args.w) in
    let has = rw (c.origin.ensures, c.origin-2.ensures) at c.has.ensures in
    (λ h. drawn.0 (has.0 h), λ e. has.1 (drawn.1 e))
