-- Paths joined, turned and mapped; and that a walk back along a relation without cycles ends, within bounds.
use Rattle.std.proofs.Common.{◌≡◌, ℕ, zero, suc, ◌+◌, ◌<◌, ◌≤◌, Bool, false, ◌||◌, T, eqb, ◌⊎◌, refl, inl, inr, arith, eqb→eq}
use lib.Dec.{eqb_refl}
use Rattle.model.specs.Paths.{Path*, here, step}
use Rattle.model.proofs.Counts.{count, count_is, count_all, count_lt}
use Rattle.model.proofs.Tests.{or_so, or_thus}
use Rattle.model.proofs.Cases.{cases}

pub path_join : {R : ℕ → ℕ → Type 0} {x y z : ℕ} → Path* R x y → Path* R y z → Path* R x z
path_join p here = p
path_join p (step q e) = step (path_join p q) e

pub path_one : {R : ℕ → ℕ → Type 0} {x y : ℕ} → R x y → Path* R x y
path_one e = step here e

-- a path is empty, or has a last edge
pub path_last : {R : ℕ → ℕ → Type 0} {x z : ℕ} → Path* R x z → (x ≡ z) ⊎ ((y : ℕ) × Path* R x y × R y z)
path_last here = inl refl
path_last (step {y = y} p e) = inr (y, p, e)

pub path_turn : {R : ℕ → ℕ → Type 0} {x y : ℕ} → Path* (λ a b. R b a) x y → Path* R y x
path_turn here = here
path_turn (step p e) = path_join (path_one e) (path_turn p)

pub path_map : {R Q : ℕ → ℕ → Type 0} {x y : ℕ} → ((a b : ℕ) → R a b → Q a b) → Path* R x y → Path* Q x y
path_map f here = here
path_map f (step {y = y} {z = z} p e) = step (path_map f p) (f y z e)

-- Every P below n is a Q or has a P just before it along R, and R has no cycle: so walking back from a P ends at a Q. The walk marks what it
-- has passed; each step marks one number more, and there are n.
module _ (R : ℕ → ℕ → Type 0) (P Q : ℕ → Type 0) (n : ℕ)
    (no_cycle : (x y : ℕ) → Path* R x y → R y x → ⊥)
    (range : (x : ℕ) → P x → x < n)
    (next : (x : ℕ) → P x → Q x ⊎ ((y : ℕ) × R y x × P y)) where
  -- a path of R leads to x from a Q
  abbrev Ends : ℕ → Type 0
  Ends x = (z : ℕ) × Q z × P z × Path* R z x

  -- the numbers that f marks come after x
  abbrev Seen : (ℕ → Bool) → ℕ → Type 0
  Seen f x = (m : ℕ) → T (f m) → (z : ℕ) × Path* R x z × R z m

  -- x comes after all that f marks, so f does not mark it
  fresh : (f : ℕ → Bool) (x : ℕ) → Seen f x → ¬ (T (f x))
  fresh f x seen t = let y = seen x t in no_cycle x y.0 y.1 y.2

  mark : (ℕ → Bool) → ℕ → ℕ → Bool
  mark f x m = f m || eqb x m

  mark_one : (f : ℕ → Bool) (x : ℕ) → P x → Seen f x → count n f < count n (mark f x)
  unfolding mark
  mark_one f x a seen = count_lt x (λ m t. or_thus (f m) (eqb x m) (inl t)) (range x a)
      (fresh f x seen) (or_thus (f x) (eqb x x) (inr (eqb_refl x))) (count_is n f) (count_is n (mark f x))

  mark_seen : (f : ℕ → Bool) (x y : ℕ) → R y x → Seen f x → Seen (mark f x) y
  unfolding mark
  mark_seen f x y e seen m t = cases (or_so (f m) (eqb x m) t)
      (λ t'. let z = seen m t' in (z.0, path_join (path_one e) z.1, z.2))
      (λ t'. (y, here, rw (eqb→eq x m t') at e))

  go : (k : ℕ) (f : ℕ → Bool) → n ≤ count n f + k → (x : ℕ) → P x → Seen f x → Ends x
  go zero f h x a seen =
      absurd (omega (arith, count_lt x (λ m t. tt) (range x a) (fresh f x seen) tt (count_is n f) (count_all n)))
  go (suc k) f h x a seen = cases (next x a)
      (λ q. (x, q, a, here))
      (λ y.
      let w : Ends y.0 = go k (mark f x) (omega (arith, mark_one f x a seen)) y.0 y.2 (mark_seen f x y.0 y.1 seen) in
      (w.0, w.1, w.2, step w.3 y.1))

  -- a walk backward along R from a P ends at a Q
  pub walk : (x : ℕ) → P x → Ends x
  walk x a = go n (λ m. false) (omega arith) x a (λ m s. elim s [ ])
