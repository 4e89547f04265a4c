use Rattle.conformance.specs.Nonconforming.{astray, repeated, short_of}
use Rattle.conformance.proofs.Assembly.{placed_of}
use Rattle.conformance.proofs.trial.Trial.check_steps.Goals as goal

pub returns-in-Some : goal.returns-in-Some
returns-in-Some c = astray c.requires.1.0 c.requires.1.1 c.in-Some.ensures

pub returns-in-Err : goal.returns-in-Err
returns-in-Err c = repeated c.requires.1.0 c.requires.1.1 c.in_default.ensures c.in-Err.ensures

pub returns-in-Some-short_of : goal.returns-in-Some-short_of
returns-in-Some-short_of c = short_of c.requires.1.0 c.requires.1.1 c.in_default.ensures c.in-Ok.ensures.0 c.in-Some-short_of.ensures

pub returns : goal.returns
returns c = placed_of c.args.self c.requires.0 c.requires.1.0 c.requires.1.1 c.in_default.ensures c.in-Ok.ensures.0 c.in_default-short_of.ensures
