use Rattle.std.proofs.Common.{arith}
use Rattle.conformance.proofs.RunRanges.{copies_few}
use Rattle.conformance.proofs.trial.Trial.place_of.Goals as goal

pub overflow_cast-next : goal.overflow_cast-next
overflow_cast-next c = omega (arith, c.in-Some.ensures.mate.exists, copies_few c.args.self)
