use Rattle.std.proofs.Common.{rules}
use Rattle.schemes.proofs.Walkers.{kept_reach}
use Rattle.schemes.proofs.walker.KeptSpecificationSkeleton.learn.Goals as goal

pub returns : goal.returns
returns c = λ _. record { counts = search rules; reaches = λ x y _ _. rw c.specification-learnt.ensures (kept_reach c.args.specification.now.specification x y) }
