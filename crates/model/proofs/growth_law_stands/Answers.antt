use Rattle.model.proofs.growth_law_stands.Goals as goal
use Rattle.model.proofs.Growth.{grown, same_reach}
use Rattle.model.proofs.Answering.{answers_alike}

pub returns : goal.returns
returns c s r r' f g S C C' G u w hu hw A B A' B' a b a' b' y y' n n' q q' x x' =
    let e = grown S.ranges.nest C.placed C'.placed G hu hw a b a' b' in
    answers_alike e (same_reach s e.as_left e.as_right) x x'
