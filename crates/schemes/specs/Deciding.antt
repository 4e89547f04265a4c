-- That the calls of a scheme leave no doubt: what is learnt decides every answer.
use Rattle.std.specs.Prelude.{◌≡◌, ℕ, Bool, T, ◌↔◌}
use Rattle.model.specs.Paths.{Path*}
use Rattle.model.specs.Specifications.{Spec, Edge}
use Rattle.formats.specs.declared.faults.Fault.{Fault}
use Rattle.schemes.specs.Meanings.{Meaning, Learnt, Questioned, IsNoVertex}

-- no question is both answered and refused, none is answered in two ways or leaves two meanings, and none is refused in two ways
pub record Decided (m : Meaning) (x y : ℕ) : Type 0 where
  pub never_both : (b : Bool) (m' : Meaning) (f : Fault) → Questioned m x y b m' → ¬ (IsNoVertex m.count x y f)
  pub one_answer : (b b' : Bool) (m' m'' : Meaning) → Questioned m x y b m' → Questioned m x y b' m'' → (b ≡ b') × (m' ≡ m'')
  pub one_fault : (f g : Fault) → IsNoVertex m.count x y f → IsNoVertex m.count x y g → f ≡ g

abbrev pub QuestionLaw : Type 0
QuestionLaw = (m : Meaning) (x y : ℕ) → Decided m x y

-- after a specification is learnt, an answer says whether zero or more of its edges lead from x to y
abbrev pub LearningLaw : Type 0
LearningLaw = (m m' m'' : Meaning) (s : Spec) (x y : ℕ) (b : Bool) → Learnt m s m' → Questioned m' x y b m'' → T b ↔ Path* (Edge s) x y
