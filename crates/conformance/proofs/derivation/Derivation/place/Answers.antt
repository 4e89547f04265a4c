use Rattle.std.proofs.Common.{arith}
use Rattle.conformance.proofs.RunRanges.{copies_few}
use Rattle.conformance.proofs.derivation.Derivation.place.Goals as goal

pub bounds-self-q : goal.bounds-self-q
bounds-self-q c = omega (arith, c.requires.1, copies_few c.args.self.now.trial)

pub offset_bounds-self-q : goal.offset_bounds-self-q
offset_bounds-self-q c = omega (arith, c.requires.1, copies_few c.args.self.now.trial)

pub returns : goal.returns
returns c = c.args.self.now.grouped c.args.q c.requires.0 c.requires.1
