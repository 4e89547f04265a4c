-- Which copies, steps, edges, blocks or vertices of an opened run and its specification are meant.
use Rattle.std.specs.Prelude.{◌≡◌, ℕ, ◌<◌, length, slice_index_or}
use Rattle.model.specs.Specifications.{Edge}
use Rattle.formats.specs.Runs.{no_run_edge}
use Rattle.formats.specs.RunFiles.{run_edges_of}
use Rattle.nesting.specs.Copies.{Under}
use Rattle.conformance.specs.Nonconforming.{HasStep}
use Rattle.conformance.specs.Trials.{trial_spec, trial_run}
use Rattle.conformance.specs.declared.trial.Trial.{Trial}

-- how many edges the run lists
abbrev pub edge_count : Trial → ℕ
edge_count o = length (run_edges_of o.run.bytes.now)

-- the edge at index k goes along an edge of the specification
abbrev pub GoesAlong : Trial → ℕ → Type 0
GoesAlong o k =
    let e = slice_index_or (run_edges_of o.run.bytes.now) k no_run_edge in
    Edge (trial_spec o) ((trial_run o).origin e.tail) ((trial_run o).origin e.head)

-- copy j stands directly under copy i
abbrev pub Inner : Trial → ℕ → ℕ → Type 0
Inner o i j = (0 < j) × ((trial_run o).parent j ≡ i)

-- copy j, other than copy 0, has the parent and the block of copy i
abbrev pub Group : Trial → ℕ → ℕ → Type 0
Group o i j = (0 < j) × ((trial_run o).parent j ≡ (trial_run o).parent i) × ((trial_run o).block j ≡ (trial_run o).block i)

-- step u belongs to copy i
abbrev pub StepOf : Trial → ℕ → ℕ → Type 0
StepOf o i u = (trial_run o).context u ≡ i

-- step u has the context and the origin of step w
abbrev pub Twin : Trial → ℕ → ℕ → Type 0
Twin o w u = ((trial_run o).context u ≡ (trial_run o).context w) × ((trial_run o).origin u ≡ (trial_run o).origin w)

-- the edge at index k leads from step u
abbrev pub Leaves : Trial → ℕ → ℕ → Type 0
Leaves o u k = (slice_index_or (run_edges_of o.run.bytes.now) k no_run_edge).tail ≡ u

-- block k is nested directly in the block of copy i, and has no copy under it
abbrev pub Lacked : Trial → ℕ → ℕ → Type 0
Lacked o i k = (0 < k) × ((trial_spec o).above k ≡ (trial_run o).block i) × (¬ (Under (trial_run o) i k))

-- vertex x is at home in the block of copy i, which has no step of it
abbrev pub Missed : Trial → ℕ → ℕ → Type 0
Missed o i x = ((trial_spec o).home x ≡ (trial_run o).block i) × (¬ (HasStep (trial_run o) i x))
