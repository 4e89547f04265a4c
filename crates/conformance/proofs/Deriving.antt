-- The parts of the check of derived edges, put together.
use Rattle.std.proofs.Common.{ℕ, ◌<◌, Bool, T, ◌≢◌, ◌↔◌, sym, arith}
use Rattle.model.specs.Meetings.{Meets, PlainAt, BackAt}
use Rattle.model.specs.Runs.{Lasts, Firsts, Placed, Plain, Back}
use Rattle.model.specs.Specifications.{Edge}
use Rattle.model.proofs.Cases.{cases}
use Rattle.model.proofs.Chains.{chain_le}
use Rattle.model.proofs.Meetings.{meets_left, meets_right, plain_meets, back_meets}
use Rattle.conformance.specs.Deriving.{ByGroup, StepsMeet, Turns, Under}
use Rattle.conformance.specs.Trials.{trial_run, trial_spec}
use Rattle.conformance.specs.declared.meetings.Meeting.{Meeting}
use Rattle.conformance.specs.declared.trial.Trial.{Trial}
use Rattle.conformance.proofs.RunRanges.{trial_falls, trial_nest, trial_context}

-- a child of the meeting, if that is not the start itself, has a number above 0
end_pos : {p : ℕ → ℕ} {i j m a b : ℕ} → Meets p i j m a b → a ≢ m → 0 < a
end_pos M d = cases M.left_end (λ x. absurd (d x.1)) (λ x. x.0)

module _ (t : Trial) {u w : ℕ} {meeting : Meeting} (M : StepsMeet (trial_run t) u w meeting) where
  pub under_common : Under (trial_run t) u meeting.common × Under (trial_run t) w meeting.common
  under_common = ((M.tail_step, meets_left M.chains_meet), (M.head_step, meets_right M.chains_meet))

  -- copies of one group that lead to the meeting are copies above 0

  pub left_pos : ByGroup (trial_run t) meeting.common meeting.left meeting.right → 0 < meeting.left
  left_pos g = end_pos M.chains_meet g.0

  pub left_range : meeting.left < (trial_run t).c
  left_range = omega (arith, chain_le (trial_falls t) M.chains_meet.from_left, trial_context t M.tail_step)

  module _ (P : Placed (trial_spec t) (trial_run t)) where
    plain_of : Plain (trial_spec t) (trial_run t) u w ↔ PlainAt (trial_spec t) (trial_run t) u w meeting.common meeting.left meeting.right
    plain_of = plain_meets (trial_nest t) P M.tail_step M.head_step M.chains_meet

    back_of : Back (trial_spec t) (trial_run t) u w ↔ BackAt (trial_spec t) (trial_run t) u w meeting.common meeting.left meeting.right
    back_of = back_meets (trial_nest t) P M.tail_step M.head_step M.chains_meet

    -- an edge of the first kind does not lead from one copy of a group to another

    pub plain_apart : ByGroup (trial_run t) meeting.common meeting.left meeting.right → ¬ (Plain (trial_spec t) (trial_run t) u w)
    plain_apart g E = (plain_of.0 E).no_group g

    -- an edge of the second kind does, and to the next one

    pub back_group : Back (trial_spec t) (trial_run t) u w → ByGroup (trial_run t) meeting.common meeting.left meeting.right
    back_group E = let B = back_of.0 E in (B.under_left, B.under_right, sym B.turns.mate.one_block)

    pub back_turns : Back (trial_spec t) (trial_run t) u w → Turns (trial_spec t) (trial_run t) u w meeting.left meeting.right
    back_turns E = let B = back_of.0 E in record { of_loop = B.turn_loop; at_sink = B.turn_sink; at_source = B.turn_source; to_next = B.turns }

    pub back_told : (x : Bool) → ByGroup (trial_run t) meeting.common meeting.left meeting.right
        → Turns (trial_spec t) (trial_run t) u w meeting.left meeting.right
        → (T x ↔ (Lasts (trial_spec t) (trial_run t) ((trial_run t).context u) meeting.left × Firsts (trial_spec t) (trial_run t) ((trial_run t).context w) meeting.right))
        → T x ↔ Back (trial_spec t) (trial_run t) u w
    back_told x g n h = (
      λ y. back_of.1 (record {
        under_left = g.0;
        under_right = g.1;
        turn_loop = n.of_loop;
        turn_sink = n.at_sink;
        turn_source = n.at_source;
        turns = n.to_next;
        lasts_left = (h.0 y).0;
        firsts_right = (h.0 y).1;
      }),
      λ E. let B = back_of.0 E in h.1 (B.lasts_left, B.firsts_right),
    )

    pub plain_told : Edge (trial_spec t) ((trial_run t).origin u) ((trial_run t).origin w) → (¬ (ByGroup (trial_run t) meeting.common meeting.left meeting.right))
        → (x : Bool)
        → (T x ↔ (Lasts (trial_spec t) (trial_run t) ((trial_run t).context u) meeting.common × Firsts (trial_spec t) (trial_run t) ((trial_run t).context w) meeting.common))
        → T x ↔ Plain (trial_spec t) (trial_run t) u w
    plain_told j g x h = (
      λ y. plain_of.1 (record { spec_edge = j; no_group = g; lasts_left = (h.0 y).0; firsts_right = (h.0 y).1 }),
      λ E. let B = plain_of.0 E in h.1 (B.lasts_left, B.firsts_right),
    )
