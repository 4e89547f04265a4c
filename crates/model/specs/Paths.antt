-- Paths of a relation on numbers.
use Rattle.std.specs.Prelude.{ℕ}

-- zero or more edges of R lead from the first number to the second
pub data Path* (R : ℕ → ℕ → Type 0) : ℕ → ℕ → Type 0 where
  here : {x : ℕ} → Path* R x x
  step : {x y z : ℕ} → Path* R x y → R y z → Path* R x z

-- one or more edges of R lead from x to z: the last of them starts at some y
abbrev pub Path⁺ : (ℕ → ℕ → Type 0) → ℕ → ℕ → Type 0
Path⁺ R x z = (y : ℕ) × Path* R x y × R y z
