-- The tally after many questions.
use Rattle.std.specs.Prelude.{◌≡◌, ℕ, suc, ◌+◌, ◌%◌, ◌^◌, ◌<◌, Bool}
use Rattle.schemes.specs.Meanings.{Meaning, Questioned}

-- k questions, each answered, lead from the first meaning to the second
pub data Asked (m : Meaning) : ℕ → Meaning → Type 0 where
  none : Asked m 0 m
  more : {k x y : ℕ} {b : Bool} {m' m'' : Meaning} → Asked m k m' → Questioned m' x y b m'' → Asked m (suc k) m''

-- the tally counts them modulo 2 ^ 32; so after 2 ^ 32 questions it is what it was
pub record TallyLaw : Type 0 where
  pub counts : (m m' : Meaning) (k : ℕ) → m.tally < 2 ^ 32 → Asked m k m' → m'.tally ≡ (m.tally + k) % 2 ^ 32
  pub comes_round : (m m' : Meaning) → m.tally < 2 ^ 32 → Asked m (2 ^ 32) m' → m'.tally ≡ m.tally
