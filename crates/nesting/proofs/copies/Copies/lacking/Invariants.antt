use Rattle.nesting.specs.Pairs.{copies_spec, copies_run}
use Rattle.nesting.proofs.Passed.{FilledBelow}
use Rattle.nesting.proofs.copies.Copies.lacking.Given as goal

abbrev pub invariant-loop-i : goal.invariant-loop-i
invariant-loop-i l = FilledBelow (copies_spec l.self) (copies_run l.self) l.i
