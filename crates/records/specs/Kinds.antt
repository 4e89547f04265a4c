-- The kinds of record: for each the limits of its size, and the range of its two numbers.
use Rattle.std.specs.Prelude.{ℕ, ◌<◌, ◌≤◌, cond, ◌==◌}
use Rattle.records.specs.declared.record.Bounds.{Bounds}
use Rattle.records.specs.declared.record.Span.{Span}

-- a number of the span: from `low` up to, and without, `end`
abbrev pub Within : Span → ℕ → Type 0
Within s x = (s.low ≤ x) × (x < s.end)

-- a section of this kind has from `floor` to `ceiling` records; of record i the first number lies in `firsts i`, the second in `seconds i`
pub record Kind : Type 0 where
  pub floor : ℕ
  pub ceiling : ℕ
  pub firsts : Bounds → ℕ → Span
  pub seconds : Bounds → ℕ → Span

-- a section of this kind may have so many records
abbrev pub Fits : Kind → ℕ → Type 0
Fits k size = (k.floor ≤ size) × (size ≤ k.ceiling)

-- the numbers below n
abbrev pub below : ℕ → Span
below n = record { low = 0; end = n }

-- 0 for the record numbered 0, else the span given
abbrev pub but_zero_lem : ℕ → Span → Span
but_zero_lem i s = cond (i == 0) (below 1) s

-- tail and head: vertices
abbrev pub spec_edge_kind : Kind
spec_edge_kind = record { floor = 0; ceiling = 512; firsts = λ w i. below w.vertices; seconds = λ w i. below w.vertices }

-- home: a block; tool code: any number
abbrev pub vertex_kind : Kind
vertex_kind = record { floor = 1; ceiling = 64; firsts = λ w i. below w.blocks; seconds = λ w i. below 65536 }

-- block 0 has parent 0 and kind 0; any other block has a parent below it, and is of kind 1 (fork) or 2 (loop)
abbrev pub nest_kind : Kind
nest_kind = record { floor = 1; ceiling = 32; firsts = λ w i. but_zero_lem i (below i); seconds = λ w i. but_zero_lem i (record { low = 1; end = 3 }) }

-- source and sink: vertices
abbrev pub ends_kind : Kind
ends_kind = record { floor = 1; ceiling = 32; firsts = λ w i. below w.vertices; seconds = λ w i. below w.vertices }

-- copy 0 has parent 0 and block 0; any other copy has a parent below it, and a block but 0
abbrev pub copy_kind : Kind
copy_kind = record { floor = 1; ceiling = 512; firsts = λ w i. but_zero_lem i (below i); seconds = λ w i. but_zero_lem i (record { low = 1; end = w.blocks }) }

-- context: a copy; origin: a vertex
abbrev pub step_kind : Kind
step_kind = record { floor = 1; ceiling = 2048; firsts = λ w i. below w.copies; seconds = λ w i. below w.vertices }

-- tail and head: steps
abbrev pub run_edge_kind : Kind
run_edge_kind = record { floor = 0; ceiling = 8192; firsts = λ w i. below w.steps; seconds = λ w i. below w.steps }
