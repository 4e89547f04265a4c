use Rattle.std.proofs.Common.{T, subst}
use Rattle.conformance.proofs.Deriving.{left_pos, left_range, back_turns, back_told}
use Rattle.conformance.proofs.Kept.{placed_kept}
use Rattle.conformance.proofs.derivation.Derivation.back.Goals as goal

pub turns-requires : goal.turns-requires
turns-requires c =
    let t = c.args.self.now.trial in
    (left_pos t c.requires.steps_meet c.requires.of_group, left_range t c.requires.steps_meet)

pub returns-then-turns : goal.returns-then-turns
returns-then-turns c =
    let d = c.args.self.now in
    back_told d.trial c.requires.steps_meet (placed_kept d.placed) c.last_to_first.result c.requires.of_group (c.if-turns.ensures.0 tt) c.last_to_first.ensures

pub returns-else-turns : goal.returns-else-turns
returns-else-turns c =
    let d = c.args.self.now in
    (λ h. absurd (subst T c.if-turns.false h), λ E. c.turns.ensures.1 (back_turns d.trial c.requires.steps_meet (placed_kept d.placed) E))
