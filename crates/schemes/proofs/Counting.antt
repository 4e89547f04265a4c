-- The tally after many questions.
use Rattle.std.proofs.Common.{◌≡◌, ℕ, ◌+◌, ◌%◌, ◌^◌, ◌<◌, arith}
use Rattle.schemes.specs.Meanings.{Meaning}
use Rattle.schemes.specs.Tallies.{Asked, none, more, TallyLaw}

counted : (m : Meaning) {m' : Meaning} {k : ℕ} → m.tally < 2 ^ 32 → Asked m k m' → m'.tally ≡ (m.tally + k) % 2 ^ 32
counted m h none = omega arith
counted m h (more a q) = omega (arith, counted m h a, q.one_more)

pub tally_law : TallyLaw
tally_law = record {
  counts = λ m m' k h a. counted m h a;
  comes_round = λ m m' h a. omega (arith, counted m h a);
}
