use Rattle.std.proofs.Common.{length, rules}
use Rattle.model.specs.Paths.{here}
use Rattle.schemes.proofs.Walks.{unmarked_less, walk_ends}
use Rattle.schemes.proofs.walk.reached.Goals as goal

pub loop-init : goal.loop-init
loop-init c = record { start = search rules; on_path = λ k m. search (rules, here) }

pub loop-smaller : goal.loop-smaller
loop-smaller c = unmarked_less c.args.edges.now c.loop.seen c.pass.new.seen (length c.args.edges.now) c.loop-test.ensures

pub returns : goal.returns
returns c = walk_ends c.args.edges.now c.args.x c.loop.seen c.pass.new.seen c.loop.invariant c.loop-test.ensures
