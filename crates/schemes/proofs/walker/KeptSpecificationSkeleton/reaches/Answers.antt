use Rattle.schemes.proofs.Walkers.{kept_reach}
use Rattle.schemes.proofs.walker.KeptSpecificationSkeleton.reaches.Goals as goal

pub returns : goal.returns
returns c =
    let walked = rw c.edges.ensures at c.reached.ensures in
    let on_path = walked c.args.y in
    let reach = kept_reach c.args.self.now.specification c.args.x c.args.y in
    ((λ t. reach.1 (on_path.0 (c.has.ensures.0 t))), λ t. c.has.ensures.1 (on_path.1 (reach.0 t)))
