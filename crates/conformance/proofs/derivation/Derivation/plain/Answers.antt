use Rattle.conformance.proofs.Deriving.{under_common, plain_told}
use Rattle.conformance.proofs.Kept.{placed_kept}
use Rattle.conformance.proofs.derivation.Derivation.plain.Goals as goal

pub last_to_first-requires : goal.last_to_first-requires
last_to_first-requires c = under_common c.args.self.now.trial c.requires.steps_meet

pub returns-then-has_edge : goal.returns-then-has_edge
returns-then-has_edge c =
    let d = c.args.self.now in
    plain_told d.trial c.requires.steps_meet (placed_kept d.placed) (c.if-has_edge.ensures.0 tt) c.requires.no_group c.last_to_first.result c.last_to_first.ensures
