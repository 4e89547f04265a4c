use Rattle.model.proofs.after_law_stands.Goals as goal
use Rattle.model.proofs.Labels.{after_says, after_said}

pub returns : goal.returns
returns c s r S C u w hu hw A B a b = (after_says S C hu hw a b, after_said S C hu hw a b)
