-- What holds of the copies, or of the blocks, that a loop has passed.
use Rattle.std.proofs.Common.{ℕ, ◌<◌}
use Rattle.model.specs.Specifications.{Spec}
use Rattle.model.specs.Runs.{Run}
use Rattle.nesting.specs.Copies.{Full}

-- none of the first n copies lacks one
abbrev pub FilledBelow : Spec → Run → ℕ → Type 0
FilledBelow s r n = (j : ℕ) → j < n → Full s r j
