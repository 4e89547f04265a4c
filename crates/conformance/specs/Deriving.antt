-- What the check of derived edges asks of copies and steps.
use Rattle.std.specs.Prelude.{◌≡◌, ℕ, ◌<◌, ◌≢◌}
use Rattle.model.specs.Forests.{Chain}
use Rattle.model.specs.Meetings.{Meets}
use Rattle.model.specs.Runs.{Run, Next, First as IsFirst, Last as IsLast}
use Rattle.model.specs.Specifications.{Spec}
use Rattle.conformance.specs.declared.derived.End.{End}
use Rattle.conformance.specs.declared.derived.End.TheVariants.{First, Last}
use Rattle.conformance.specs.declared.meetings.Meeting.{Meeting}

-- copy q stands at this end of its group
abbrev pub AtEnd : Run → End → ℕ → Type 0
AtEnd r First = IsFirst r
AtEnd r Last = IsLast r

-- u is a step, and copy a is in the chain of its context
abbrev pub Under : Run → ℕ → ℕ → Type 0
Under r u a = (u < r.v) × Chain r.parent (r.context u) a

-- two chains come to the copy m, where they meet, by the copies a and b of one group
abbrev pub ByGroup : Run → ℕ → ℕ → ℕ → Type 0
ByGroup r m a b = (a ≢ m) × (b ≢ m) × (r.block a ≡ r.block b)

-- a is a copy of a loop and b the next copy of its group; the origin of step u is the loop's sink, and that of step w its source
pub record Turns (s : Spec) (r : Run) (u w a b : ℕ) : Type 0 where
  pub of_loop : s.kind (r.block a) ≡ 2
  pub at_sink : r.origin u ≡ s.sink (r.block a)
  pub at_source : r.origin w ≡ s.source (r.block a)
  pub to_next : Next r a b

-- u and w are steps, and here the chains of their contexts meet
pub record StepsMeet (r : Run) (u w : ℕ) (meeting : Meeting) : Type 0 where
  pub tail_step : u < r.v
  pub head_step : w < r.v
  pub chains_meet : Meets r.parent (r.context u) (r.context w) meeting.common meeting.left meeting.right
