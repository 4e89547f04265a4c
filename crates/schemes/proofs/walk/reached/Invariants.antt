use Rattle.schemes.proofs.Walks.{Walk, unmarked}
use Rattle.schemes.proofs.walk.reached.Given as goal

abbrev pub invariant-loop : goal.invariant-loop
invariant-loop l = Walk l.edges l.x l.seen

abbrev pub decreases-loop : goal.decreases-loop
decreases-loop l = unmarked l.seen
