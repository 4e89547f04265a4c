use Rattle.std.proofs.Common.{◌<◌, ◌↔◌, length}
use Rattle.model.specs.Forests.{Chain}
use Rattle.rules.specs.Parts.{parts_spec}
use Rattle.rules.proofs.parts.Parts.leads_up.Given as goal

abbrev pub invariant-loop-at : goal.invariant-loop-at
invariant-loop-at l = (l.at < length l.self.nests.now) × (Chain (parts_spec l.self).above l.i l.j ↔ Chain (parts_spec l.self).above l.at l.j)

abbrev pub decreases-loop-at : goal.decreases-loop-at
decreases-loop-at l = l.at
