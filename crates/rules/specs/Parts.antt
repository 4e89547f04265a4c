-- The specification of the subject that the lent tables stand for.
use Rattle.std.specs.Prelude.{◌≡◌, ℕ, ◌<◌, true, ◌↔◌, List, ◌==◌, slice_index_or}
use Rattle.std.specs.Coded.{le_prop}
use Rattle.std.proofs.Math.Bool.{Bool-set}
use Rattle.std.proofs.Math.Nat.{ℕ_set}
use Rattle.std.specs.List.{list_any}
use Rattle.model.specs.Specifications.{Spec, Edge, Domain}
use Rattle.formats.specs.Specifications.{no_edge, spec_from}
use Rattle.records.specs.declared.kinds.Ends.{Ends}
use Rattle.records.specs.declared.kinds.SpecEdge.{SpecEdge}
use Rattle.graphs.specs.Rows.{Has, Holds}
use Rattle.graphs.specs.declared.row.Row.{Row}
use Rattle.rules.specs.declared.parts.Parts.{Parts}

abbrev pub parts_spec : Parts → Spec
parts_spec p = spec_from p.edges.now p.vertices.now p.nests.now p.ends.now

-- the row holds the domain of block k
abbrev pub HoldsDomain : Spec → ℕ → Row → Type 0
HoldsDomain s k row = (x : ℕ) → Holds row x ↔ ((x < s.n) × Domain s k x)

-- the row holds the vertices with an edge into them, or out of them
abbrev pub HoldsHeads : Spec → Row → Type 0
HoldsHeads s row = (x : ℕ) → Holds row x ↔ ((y : ℕ) × Edge s y x)

abbrev pub HoldsTails : Spec → Row → Type 0
HoldsTails s row = (x : ℕ) → Holds row x ↔ ((y : ℕ) × Edge s x y)

-- the row holds an end of each of the edges, `end` of it, and nothing else
abbrev pub Marks : (SpecEdge → ℕ) → List SpecEdge → Row → Type 0
Marks end es row = (x : ℕ) → Holds row x ↔ (list_any (λ e. end e == x) es ≡ true)

pub Marks-prop : (end : SpecEdge → ℕ) (es : List SpecEdge) (row : Row) → IsProp (Marks end es row)
unfolding Holds Has
Marks-prop end es row = hlevel (le_prop, Bool-set, ℕ_set)

-- x is missing from the row exactly where it is `end`
abbrev pub MissingOnly : Row → ℕ → ℕ → Type 0
MissingOnly row end x = (¬ (Holds row x)) ↔ (x ≡ end)

-- the source is missing from the heads, the sink from the tails, and x else from neither
pub record EndsFit (heads tails : Row) (e : Ends) (x : ℕ) : Type 0 where
  pub source_fits : MissingOnly heads e.source x
  pub sink_fits : MissingOnly tails e.sink x

-- tail and head of the edge at an index of the list
abbrev pub tail_at : List SpecEdge → ℕ → ℕ
tail_at es i = (slice_index_or es i no_edge).tail

abbrev pub head_at : List SpecEdge → ℕ → ℕ
head_at es i = (slice_index_or es i no_edge).head
