use Rattle.std.proofs.Common.{◌↔◌}
use Rattle.model.specs.Forests.{Chain}
use Rattle.formats.specs.Of.{spec_of}
use Rattle.topuivahe.proofs.members.in_domain.Given as goal

abbrev pub invariant-loop-at : goal.invariant-loop-at
invariant-loop-at l = Chain (spec_of l.specification).above ((spec_of l.specification).home l.vertex) l.block ↔ Chain (spec_of l.specification).above l.at l.block

abbrev pub decreases-loop-at : goal.decreases-loop-at
decreases-loop-at l = l.at
