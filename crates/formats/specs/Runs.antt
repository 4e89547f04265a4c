-- What the three sections of a run file say, as a run of the subject.
use Rattle.std.specs.Prelude.{◌≡◌, ℕ, ◌-◌, ◌<◌, ◌≤◌, Bool, List, length, slice_index_or}
use Rattle.model.specs.Runs.{Run}
use Rattle.formats.specs.Pairs.{holds_pair}
use Rattle.records.specs.declared.kinds.RunCopy.{RunCopy}
use Rattle.records.specs.declared.kinds.Step.{Step}
use Rattle.records.specs.declared.kinds.RunEdge.{RunEdge}

-- records of zeros: what a list is read as beyond its end
abbrev pub no_copy : RunCopy
no_copy = record { parent = 0; block = 0 }

abbrev pub no_step : Step
no_step = record { context = 0; origin = 0 }

abbrev pub no_run_edge : RunEdge
no_run_edge = record { tail = 0; head = 0 }

-- a record of its two numbers
abbrev pub made_copy : ℕ → ℕ → RunCopy
made_copy a b = record { parent = a; block = b }

abbrev pub made_step : ℕ → ℕ → Step
made_step a b = record { context = a; origin = b }

abbrev pub made_run_edge : ℕ → ℕ → RunEdge
made_run_edge a b = record { tail = a; head = b }

-- the edge from u to w stands in the list
abbrev pub lists_edge : List RunEdge → ℕ → ℕ → Bool
lists_edge es u w = holds_pair (λ e. e.tail) (λ e. e.head) es u w

-- the run with these copies, steps and edges, copies and steps numbered by their places in the lists
abbrev pub run_from : List RunCopy → List Step → List RunEdge → Run
run_from cs ss es = record {
  c = length cs;
  v = length ss;
  parent = λ i. (slice_index_or cs i no_copy).parent;
  block = λ i. (slice_index_or cs i no_copy).block;
  context = λ u. (slice_index_or ss u no_step).context;
  origin = λ u. (slice_index_or ss u no_step).origin;
  listed = lists_edge es;
}

-- copy 0 has parent 0 and block 0
abbrev pub RootRanged : List RunCopy → Type 0
RootRanged cs = ((slice_index_or cs 0 no_copy).parent ≡ 0) × ((slice_index_or cs 0 no_copy).block ≡ 0)

-- any other copy has a parent below it, and one of b blocks, but not block 0
abbrev pub CopiesRanged : ℕ → List RunCopy → Type 0
CopiesRanged b cs = (i : ℕ) → 0 < i → i < length cs → ((slice_index_or cs i no_copy).parent < i) × (0 < (slice_index_or cs i no_copy).block) × ((slice_index_or cs i no_copy).block < b)

-- contexts are copies, and origins lie below n
abbrev pub StepsRanged : ℕ → List RunCopy → List Step → Type 0
StepsRanged n cs ss = (u : ℕ) → u < length ss → ((slice_index_or ss u no_step).context < length cs) × ((slice_index_or ss u no_step).origin < n)

-- tails and heads are steps
abbrev pub RunEdgesRanged : List Step → List RunEdge → Type 0
RunEdgesRanged ss es = (k : ℕ) → k < length es → ((slice_index_or es k no_run_edge).tail < length ss) × ((slice_index_or es k no_run_edge).head < length ss)

-- the edges ascend: no tail is below the one before, and where two are equal the head is greater
abbrev pub TailsAscend : List RunEdge → Type 0
TailsAscend es = (k : ℕ) → 0 < k → k < length es → (slice_index_or es (k - 1) no_run_edge).tail ≤ (slice_index_or es k no_run_edge).tail

abbrev pub HeadsAscend : List RunEdge → Type 0
HeadsAscend es = (k : ℕ) → 0 < k → k < length es → (slice_index_or es (k - 1) no_run_edge).tail ≡ (slice_index_or es k no_run_edge).tail
    → (slice_index_or es (k - 1) no_run_edge).head < (slice_index_or es k no_run_edge).head
