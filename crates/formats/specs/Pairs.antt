-- Whether a list of records holds one with a given pair of numbers.
use Rattle.std.specs.Prelude.{ℕ, Bool, false, ◌&&◌, ◌||◌, List, [], ◌∷◌, ◌==◌}

-- some record of the list has x as its first number and y as its second
abbrev pub holds_pair : {E : Type 0} → (E → ℕ) → (E → ℕ) → List E → ℕ → ℕ → Bool
holds_pair first second [] x y = false
holds_pair first second (e ∷ es) x y = (first e == x && second e == y) || holds_pair first second es x y
