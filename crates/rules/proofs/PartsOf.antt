-- How long a table is when it is lent.
use Rattle.std.proofs.Common.{◌≡◌, ℕ, ◌≤◌, List, length, take, ap, arith}
use Rattle.std.proofs.lemmas.List.{length-take}

-- what a table of at most n items keeps is at most n long
pub few_of : {X : Type 0} (items l : List X) (len n : ℕ) → l ≡ take len items → len ≤ n → length l ≤ n
few_of items l len n e h = let p = ap length e in omega (arith, p, length-take len items)
