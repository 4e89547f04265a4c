-- What a skeleton scheme means, and what each call does to it.
use Rattle.std.specs.Prelude.{◌≡◌, ℕ, ◌+◌, ◌%◌, ◌^◌, ◌<◌, ◌≤◌, Bool, T, ◌↔◌}
use Rattle.model.specs.Paths.{Path*}
use Rattle.model.specs.Specifications.{Spec, Edge}
use Rattle.formats.specs.declared.faults.Fault.{Fault}

-- how many vertices the scheme knows, which of them reach which, and how many questions it has answered, modulo 2 ^ 32
pub record Meaning : Type 0 where
  pub count : ℕ
  pub reach : ℕ → ℕ → Bool
  pub tally : ℕ

-- a count and a reach, with a tally beside them
abbrev pub tallied : ℕ → (ℕ → ℕ → Bool) → ℕ → Meaning
tallied count reach tally = record { count = count; reach = reach; tally = tally }

-- the reach is that of the specification: x reaches y where zero or more edges lead from x to y
pub record Reaches (m : Meaning) (s : Spec) : Type 0 where
  pub counts : m.count ≡ s.n
  pub reaches : (x y : ℕ) → x < s.n → y < s.n → T (m.reach x y) ↔ Path* (Edge s) x y

-- a new scheme: the trivial reach, and no question yet
pub record Fresh (m : Meaning) : Type 0 where
  pub one_vertex : m.count ≡ 1
  pub itself : T (m.reach 0 0)
  pub none_put : m.tally ≡ 0

-- the specification is learnt
pub record Learnt (m : Meaning) (s : Spec) (m' : Meaning) : Type 0 where
  pub own : Reaches m' s
  pub tally_stays : m'.tally ≡ m.tally

-- the question whether x reaches y is answered
pub record Questioned (m : Meaning) (x y : ℕ) (answer : Bool) (m' : Meaning) : Type 0 where
  pub first_vertex : x < m.count
  pub second_vertex : y < m.count
  pub by_reach : T answer ↔ T (m.reach x y)
  pub count_stays : m'.count ≡ m.count
  pub reach_stays : (a b : ℕ) → m'.reach a b ≡ m.reach a b
  pub one_more : m'.tally ≡ (m.tally + 1) % 2 ^ 32

-- a question on x and y is refused where there are `count` vertices: x is none of them, or y is the first of the two that is none
pub data IsNoVertex (count x y : ℕ) : Fault → Type 0 where
  first_outside : count ≤ x → IsNoVertex count x y (record { layer = 4; number = 18; place = 1 })
  second_outside : x < count → count ≤ y → IsNoVertex count x y (record { layer = 4; number = 18; place = 2 })
