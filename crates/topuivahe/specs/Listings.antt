-- Lists of the numbers that have a property.
use Rattle.std.specs.Prelude.{ℕ, ◌+◌, List, [], ◌∷◌, ◌++◌}

-- xs lists, ascending, the numbers below n of which P holds, and no other
pub data Lists (P : ℕ → Type 0) : ℕ → List ℕ → Type 0 where
  nothing : Lists P 0 []
  taken : {n : ℕ} {xs : List ℕ} → Lists P n xs → P n → Lists P (n + 1) (xs ++ n ∷ [])
  passed : {n : ℕ} {xs : List ℕ} → Lists P n xs → (¬ (P n)) → Lists P (n + 1) xs
