-- What a scheme means that counts its answers.
use Rattle.std.specs.Prelude.{ℕ, Bool}
use Rattle.schemes.specs.Meanings.{Meaning, tallied}
use Rattle.schemes.specs.declared.counted.Counted.{Counted}

-- the count and the reach of its skeleton, and its tally
abbrev pub counted_meaning : {S : Type 0} → (S → ℕ) → (S → ℕ → ℕ → Bool) → Counted S → Meaning
counted_meaning count reach c = tallied (count c.skeleton) (reach c.skeleton) c.tally
