-- The question rule comes to one answer; it is yes where the rule says yes; and labels that compare alike get one answer.
use Rattle.std.proofs.Common.{◌≡◌, ℕ, ◌<◌, Bool, true, false, T, ◌⊎◌, ◌↔◌, refl, inl, inr, arith}
use Rattle.model.specs.Labels.{Label, Other, Yes, by_equal, by_loop, by_reach, Answer, equal, forked, looped, asked}
use Rattle.model.specs.Laws.{Answered}
use Rattle.std.proofs.lemmas.Bool.{cases_eq, cases_lt}
use Rattle.model.proofs.Cases.{cases}
use Rattle.model.proofs.Tests.{test_lt}

bool_ext : (a b : Bool) → (T a → T b) → (T b → T a) → a ≡ b
bool_ext true true f g = refl
bool_ext true false f g = absurd (f tt)
bool_ext false true f g = absurd (g tt)
bool_ext false false f g = refl

-- the answer is yes exactly when the rule says yes

pub answer_yes : {A B : Label} {R : Type 0} {y : Bool} {c q : ℕ} → Answer A B R y c q → T y → Yes A B R
answer_yes (equal e h) t = by_equal e (h.0 t)
answer_yes (forked d x) t = elim t [ ]
answer_yes (looped d n x h) t = by_loop d n x (h.0 t)
answer_yes (asked d n m h) t = by_reach d n m (h.0 t)

pub yes_answer : {A B : Label} {R : Type 0} {y : Bool} {c q : ℕ} → Answer A B R y c q → Yes A B R → T y
yes_answer (equal e h) (by_equal e' p) = h.1 p
yes_answer (equal e h) (by_loop d n x l) = absurd (d e)
yes_answer (equal e h) (by_reach d n m p) = absurd (d e)
yes_answer (forked d x) (by_equal e p) = absurd (d e)
yes_answer (forked d x) (by_loop d' n y l) = absurd (n x)
yes_answer (forked d x) (by_reach d' n m p) = absurd (n x)
yes_answer (looped d n x h) (by_equal e p) = absurd (d e)
yes_answer (looped d n x h) (by_loop d' n' x' l) = h.1 l
yes_answer (looped d n x h) (by_reach d' n' m p) = absurd (m x)
yes_answer (asked d n m h) (by_equal e p) = absurd (d e)
yes_answer (asked d n m h) (by_loop d' n' x l) = absurd (m x)
yes_answer (asked d n m h) (by_reach d' n' m' p) = h.1 p

-- two answers to one pair of labels are the same, with the same counts
one_answer : {A B : Label} {R : Type 0} {y y' : Bool} {c c' q q' : ℕ} → Answer A B R y c q → Answer A B R y' c' q'
    → (y ≡ y') × (c ≡ c') × (q ≡ q')
one_answer {y = y} {y' = y'} (equal d h) (equal d' h') = (bool_ext y y' (λ t. h'.1 (h.0 t)) (λ t. h.1 (h'.0 t)), refl, refl)
one_answer (equal d h) (forked d' x') = absurd (d' d)
one_answer (equal d h) (looped d' n' x' h') = absurd (d' d)
one_answer (equal d h) (asked d' n' m' h') = absurd (d' d)
one_answer (forked d x) (equal d' h') = absurd (d d')
one_answer (forked d x) (forked d' x') = (refl, refl, refl)
one_answer (forked d x) (looped d' n' x' h') = absurd (n' x)
one_answer (forked d x) (asked d' n' m' h') = absurd (n' x)
one_answer (looped d n x h) (equal d' h') = absurd (d d')
one_answer (looped d n x h) (forked d' x') = absurd (n x')
one_answer {y = y} {y' = y'} (looped d n x h) (looped d' n' x' h') = (bool_ext y y' (λ t. h'.1 (h.0 t)) (λ t. h.1 (h'.0 t)), refl, refl)
one_answer (looped d n x h) (asked d' n' m' h') = absurd (m' x)
one_answer (asked d n m h) (equal d' h') = absurd (d d')
one_answer (asked d n m h) (forked d' x') = absurd (n x')
one_answer (asked d n m h) (looped d' n' x' h') = absurd (m x')
one_answer {y = y} {y' = y'} (asked d n m h) (asked d' n' m' h') = (bool_ext y y' (λ t. h'.1 (h.0 t)) (λ t. h.1 (h'.0 t)), refl, refl)

other_or : (a a' b b' : ℕ) → Other a a' b b' ⊎ (¬ (Other a a' b b'))
other_or a a' b b' = cases (cases_lt a a')
    (λ l. cases (cases_lt b' b) (λ m. inl (inl (l, m))) (λ m. inr (λ x. omega arith)))
    (λ l. cases (cases_lt a' a)
    (λ l'. cases (cases_lt b b') (λ m. inl (inr (l', m))) (λ m. inr (λ x. omega arith)))
    (λ l'. inr (λ x. omega arith)))

pub answered : (A B : Label) (reach : Bool) → Answered A B reach
answered A B reach = cases (cases_eq A.q1 B.q1)
    (λ e. only (equal e truly))
    (λ d. cases (other_or A.q1 B.q1 A.q2 B.q2)
    (λ x. only (forked d x))
    (λ n. cases (other_or A.q1 B.q1 A.q3 B.q3)
    (λ x. let t = test_lt A.q1 B.q1 in only (looped d n x (t.so, t.thus)))
    (λ m. only (asked d n m truly))))
  where
    truly : T reach ↔ T reach
    truly = ((λ t. t), λ t. t)

    only : {y : Bool} {c q : ℕ} → Answer A B (T reach) y c q → Answered A B reach
    only {y} {c} {q} a = record { says_yes = y; comparisons = c; questions = q; the_answer = a; no_other = λ y' c' q' a'. one_answer a' a }

-- two pairs of numbers compare alike
abbrev pub Alike : ℕ → ℕ → ℕ → ℕ → Type 0
Alike a b a' b' = ((a < b) ↔ (a' < b')) × ((b < a) ↔ (b' < a'))

-- to the question rule the labels A and B are as A' and B'
pub record As (A B A' B' : Label) : Type 0 where
  pub as1 : Alike A.q1 B.q1 A'.q1 B'.q1
  pub as2 : Alike A.q2 B.q2 A'.q2 B'.q2
  pub as3 : Alike A.q3 B.q3 A'.q3 B'.q3
  pub as_left : A.vertex ≡ A'.vertex
  pub as_right : B.vertex ≡ B'.vertex

alike_eq : (p q p' q' : ℕ) → Alike p q p' q' → p ≡ q → p' ≡ q'
alike_eq p q p' q' a e = cases (cases_lt p' q') (λ l. absurd (omega (arith, a.0.1 l))) λ l.
    cases (cases_lt q' p') (λ m. absurd (omega (arith, a.1.1 m))) (λ m. omega arith)

alike_back : {p q p' q' : ℕ} → Alike p q p' q' → Alike p' q' p q
alike_back a = ((a.0.1, a.0.0), (a.1.1, a.1.0))

alike_other : (p q m n p' q' m' n' : ℕ) → Alike p q p' q' → Alike m n m' n' → Other p q m n → Other p' q' m' n'
alike_other p q m n p' q' m' n' a b (inl h) = inl (a.0.0 h.0, b.1.0 h.1)
alike_other p q m n p' q' m' n' a b (inr h) = inr (a.1.0 h.0, b.0.0 h.1)

iff_join : {P Q R : Type 0} → P ↔ Q → Q ↔ R → P ↔ R
iff_join f g = ((λ p. g.0 (f.0 p)), λ r. f.1 (g.1 r))

-- an answer holds of labels that compare alike
answer_there : {A B A' B' : Label} {R R' : Type 0} {y : Bool} {c q : ℕ} → As A B A' B' → R ↔ R' → Answer A B R y c q → Answer A' B' R' y c q
answer_there {A} {B} {A'} {B'} {R} {R'} a r x = go x
  where
    same_q1 : A.q1 ≡ B.q1 → A'.q1 ≡ B'.q1
    same_q1 = alike_eq A.q1 B.q1 A'.q1 B'.q1 a.as1

    differ_q1 : (A.q1 ≡ B.q1 → ⊥) → A'.q1 ≡ B'.q1 → ⊥
    differ_q1 d e = d (alike_eq A'.q1 B'.q1 A.q1 B.q1 (alike_back a.as1) e)

    on2 : Other A.q1 B.q1 A.q2 B.q2 → Other A'.q1 B'.q1 A'.q2 B'.q2
    on2 = alike_other A.q1 B.q1 A.q2 B.q2 A'.q1 B'.q1 A'.q2 B'.q2 a.as1 a.as2

    back2 : Other A'.q1 B'.q1 A'.q2 B'.q2 → Other A.q1 B.q1 A.q2 B.q2
    back2 = alike_other A'.q1 B'.q1 A'.q2 B'.q2 A.q1 B.q1 A.q2 B.q2 (alike_back a.as1) (alike_back a.as2)

    on3 : Other A.q1 B.q1 A.q3 B.q3 → Other A'.q1 B'.q1 A'.q3 B'.q3
    on3 = alike_other A.q1 B.q1 A.q3 B.q3 A'.q1 B'.q1 A'.q3 B'.q3 a.as1 a.as3

    back3 : Other A'.q1 B'.q1 A'.q3 B'.q3 → Other A.q1 B.q1 A.q3 B.q3
    back3 = alike_other A'.q1 B'.q1 A'.q3 B'.q3 A.q1 B.q1 A.q3 B.q3 (alike_back a.as1) (alike_back a.as3)

    go : {y : Bool} {c q : ℕ} → Answer A B R y c q → Answer A' B' R' y c q
    go (equal d h) = equal (same_q1 d) (iff_join h r)
    go (forked d x) = forked (differ_q1 d) (on2 x)
    go (looped d n x h) = looped (differ_q1 d) (λ o. n (back2 o)) (on3 x) (iff_join h a.as1.0)
    go (asked d n m h) = asked (differ_q1 d) (λ o. n (back2 o)) (λ o. m (back3 o)) (iff_join h r)

-- labels that compare alike have one answer
pub answers_alike : {A B A' B' : Label} {R R' : Type 0} {y y' : Bool} {c c' q q' : ℕ} → As A B A' B' → R ↔ R'
    → Answer A B R y c q → Answer A' B' R' y' c' q' → (y ≡ y') × (c ≡ c') × (q ≡ q')
answers_alike a r x z = one_answer (answer_there a r x) z
