use Rattle.conformance.specs.Nonconforming.{stray, unlisted}
use Rattle.conformance.specs.Trials.{trial_spec}
use Rattle.conformance.proofs.Assembly.{conforms_of}
use Rattle.conformance.proofs.Kept.{placed_kept}
use Rattle.conformance.proofs.derivation.Derivation.check_edges.Goals as goal

pub returns-in-Some : goal.returns-in-Some
returns-in-Some c = stray (placed_kept c.args.self.now.placed) c.in-Some.ensures

pub returns-in-Some-unlisted : goal.returns-in-Some-unlisted
returns-in-Some-unlisted c = unlisted (placed_kept c.args.self.now.placed) c.in_default.ensures c.in-Some-unlisted.ensures

pub returns : goal.returns
returns c =
    let d = c.args.self.now in
    conforms_of (trial_spec d.trial) d.trial.run.bytes.now (placed_kept d.placed) c.in_default.ensures c.in_default-unlisted.ensures
