use Rattle.std.proofs.Common.{ℕ, ◌<◌, ◌↔◌}
use Rattle.model.specs.Specifications.{Domain}
use Rattle.graphs.specs.Rows.{Holds}
use Rattle.rules.specs.Parts.{parts_spec}
use Rattle.rules.proofs.parts.Parts.domain.Given as goal

abbrev pub invariant-loop-x : goal.invariant-loop-x
invariant-loop-x l = (y : ℕ) → Holds l.row y ↔ ((y < l.x) × Domain (parts_spec l.self) l.k y)
