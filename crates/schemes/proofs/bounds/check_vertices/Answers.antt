use Rattle.std.proofs.Common.{arith}
use Rattle.schemes.specs.Meanings.{first_outside, second_outside}
use Rattle.schemes.proofs.bounds.check_vertices.Goals as goal

pub returns-then-x-count : goal.returns-then-x-count
returns-then-x-count c = first_outside (omega arith)

pub returns-then-y-count : goal.returns-then-y-count
returns-then-y-count c = second_outside (omega arith) (omega arith)
