-- Two copies go up until they meet.
use Rattle.std.proofs.Common.{◌≡◌, ℕ, ◌<◌, ◌⊎◌, sym, refl, inl, inr, arith}
use Rattle.model.specs.Forests.{Chain, stop, up, Falls}
use Rattle.model.proofs.Cases.{cases}
use Rattle.model.proofs.Chains.{chain_eq, chain_join}
use Rattle.model.proofs.Meetings.{common_up}

-- from i one has come to x, and just before to a; from j to y, and just before to b; and nothing that is in both chains is passed
pub record Walked (p : ℕ → ℕ) (i j x y a b : ℕ) : Type 0 where
  pub come_left : Chain p i a
  pub come_right : Chain p j b
  pub at_left : ((i ≡ x) × (a ≡ x)) ⊎ ((0 < a) × (p a ≡ x))
  pub at_right : ((j ≡ y) × (b ≡ y)) ⊎ ((0 < b) × (p b ≡ y))
  pub ahead : (k : ℕ) → Chain p i k → Chain p j k → Chain p x k × Chain p y k

module _ {p : ℕ → ℕ} where
  pub walked_none : {i j : ℕ} → Walked p i j i j i j
  walked_none = record { come_left = stop; come_right = stop; at_left = inl (refl, refl); at_right = inl (refl, refl); ahead = λ k c d. (c, d) }

  walked_flip : {i j x y a b : ℕ} → Walked p i j x y a b → Walked p j i y x b a
  walked_flip W = record {
    come_left = W.come_right;
    come_right = W.come_left;
    at_left = W.at_right;
    at_right = W.at_left;
    ahead = λ k c d. let e = W.ahead k d c in (e.1, e.0);
  }

  come_to : {i j x y a b : ℕ} → Walked p i j x y a b → Chain p i x
  come_to W = cases W.at_left (λ e. chain_eq e.0) (λ e. chain_join W.come_left (up (chain_eq e.1)))

module _ {p : ℕ → ℕ} (f : Falls p) where
  -- the higher of the two goes up

  pub walked_left : {i j x y a b x' : ℕ} → Walked p i j x y a b → y < x → x' ≡ p x → Walked p i j x' y x b
  walked_left W l e = record {
    come_left = come_to W;
    come_right = W.come_right;
    at_left = inr (omega arith, sym e);
    at_right = W.at_right;
    ahead = λ k c d. let h = W.ahead k c d in (rw e (common_up f l h.0 h.1), h.1);
  }

  pub walked_right : {i j x y a b y' : ℕ} → Walked p i j x y a b → x < y → y' ≡ p y → Walked p i j x y' a y
  walked_right W l e = walked_flip (walked_left (walked_flip W) l e)
