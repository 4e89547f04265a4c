use Rattle.std.proofs.Common.{inl, inr, rules}
use Rattle.model.proofs.Cases.{cases}
use Rattle.conformance.specs.Deriving.{StepsMeet}
use Rattle.conformance.specs.Trials.{trial_run}
use Rattle.conformance.proofs.Deriving.{plain_apart, back_group}
use Rattle.conformance.proofs.Kept.{placed_kept}
use Rattle.conformance.proofs.derivation.Derivation.derived.Goals as goal

pub returns-then-by_group : goal.returns-then-by_group
returns-then-by_group c =
    let d = c.args.self.now in
    let M : StepsMeet (trial_run d.trial) c.args.u c.args.w c.meet-meeting.result = search rules in (
      λ h. record { tail_range = c.requires.0; head_range = c.requires.1; way = inr (c.back.ensures.0 h) },
      λ e. cases e.way (λ p. absurd (plain_apart d.trial M (placed_kept d.placed) (c.if-by_group.ensures.0 tt) p)) c.back.ensures.1,
    )

pub returns-else-by_group : goal.returns-else-by_group
returns-else-by_group c =
    let d = c.args.self.now in
    let M : StepsMeet (trial_run d.trial) c.args.u c.args.w c.meet-meeting.result = search rules in (
      λ h. record { tail_range = c.requires.0; head_range = c.requires.1; way = inl (c.plain.ensures.0 h) },
      λ e. cases e.way c.plain.ensures.1 (λ b. absurd (c.if-by_group.ensures.1 (back_group d.trial M (placed_kept d.placed) b))),
    )
