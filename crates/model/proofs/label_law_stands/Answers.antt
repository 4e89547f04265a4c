use Rattle.model.proofs.label_law_stands.Goals as goal
use Rattle.model.proofs.Labels.{each_label, one_label, says, said}

pub returns : goal.returns
returns c = (
  (λ s r S C. each_label C.placed),
  (
    (λ s r S C u w hu hw A a b. one_label C.placed hu hw a b),
    (λ s r S C u w hu hw A B a b. (says S C hu hw a b, said S C hu hw a b)),
  ),
)
