use Rattle.model.proofs.answer_law_stands.Goals as goal
use Rattle.model.proofs.Labels.{says, said}
use Rattle.model.proofs.Answering.{answered, answer_yes, yes_answer}

pub returns : goal.returns
returns c = (
  answered,
  (λ s r S C u w hu hw A B a b y n q x. (
    (λ t. said S C hu hw a b (answer_yes x t)),
    (λ p. yes_answer x (says S C hu hw a b p)),
  )),
)
