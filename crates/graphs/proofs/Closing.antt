-- The closure of a relation, vertex by vertex.
use Rattle.std.proofs.Common.{ℕ, ◌+◌, ◌<◌, ◌⊎◌, ◌↔◌, inl, inr, arith}
use Rattle.std.proofs.lemmas.Bool.{cases_eq}
use Rattle.model.specs.Paths.{Path*, Path⁺, here, step}
use Rattle.model.proofs.Paths.{path_join, path_map}

pub path⁺_join : {R : ℕ → ℕ → Type 0} {x y z : ℕ} → Path⁺ R x y → Path⁺ R y z → Path⁺ R x z
path⁺_join p q = (q.0, path_join (step p.1 p.2) q.1, q.2)

pub path⁺_map : {R Q : ℕ → ℕ → Type 0} {x y : ℕ} → ((a b : ℕ) → R a b → Q a b) → Path⁺ R x y → Path⁺ Q x y
path⁺_map {y = y} f p = (p.0, path_map f p.1, f p.0 y p.2)

-- R is the relation at the start, and Q what it has become: Q has just edges that R leads along, has those of R, and is joined through each vertex below k
pub record Closing (R Q : ℕ → ℕ → Type 0) (k : ℕ) : Type 0 where
  pub sound : (x y : ℕ) → Q x y → Path⁺ R x y
  pub holds : (x y : ℕ) → R x y → Q x y
  pub joins : (m : ℕ) → m < k → (x y : ℕ) → Q x m → Q m y → Q x y

pub closing_none : (R : ℕ → ℕ → Type 0) → Closing R R 0
closing_none R = record { sound = λ x y e. (x, here, e); holds = λ x y e. e; joins = λ m h x y p q. absurd (omega (arith, h)) }

-- one vertex more
module _ (R Q Q' : ℕ → ℕ → Type 0) (k : ℕ) (c : Closing R Q k) (law : (x y : ℕ) → Q' x y ↔ (Q x y ⊎ (Q x k × Q k y))) where
  -- each edge into or out of k itself is an old one
  meet : (m : ℕ) → m < k + 1 → (x y : ℕ) → Q' x m → Q' m y → Q' x y
  meet m h x y p q = let a = law x m in let b = law m y in let d = law x y in let j = c.joins m in let s = cases_eq m k in grind arith

  pub closing_more : Closing R Q' (k + 1)
  closing_more =
      record {
        sound = λ x y e. elim ((law x y).0 e) [ inl p ↦ c.sound x y p | inr p ↦ path⁺_join {R = R} (c.sound x k p.0) (c.sound k y p.1) ];
        holds = λ x y e. (law x y).1 (inl (c.holds x y e));
        joins = meet;
      }

-- where each edge of R starts below k, Q is the closure of R
module _ (R Q : ℕ → ℕ → Type 0) (k : ℕ) (range : (x y : ℕ) → R x y → x < k) (c : Closing R Q k) where
  along : {x y z : ℕ} → Path* R x y → R y z → Q x z
  along {x} {z = z} here e = c.holds x z e
  along {x} {y} {z} (step p d) e = c.joins y (range y z e) x z (along p d) (c.holds y z e)

  pub closing_all : (x y : ℕ) → Q x y ↔ Path⁺ R x y
  closing_all x y = (c.sound x y, (λ p. along p.1 p.2))
