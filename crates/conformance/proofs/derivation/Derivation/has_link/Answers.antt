use Rattle.conformance.specs.Trials.{trial_run, trial_spec}
use Rattle.conformance.proofs.Kept.{link_kept, placed_kept}
use Rattle.conformance.proofs.derivation.Derivation.has_link.Goals as goal

pub returns : goal.returns
returns c =
    let d = c.args.self.now in
    let has = rw (c.origin.ensures, c.origin-2.ensures) at c.has.ensures in
    λ e. has.1 (link_kept (trial_spec d.trial) (trial_run d.trial) d.links d.linked (placed_kept d.placed) e)
