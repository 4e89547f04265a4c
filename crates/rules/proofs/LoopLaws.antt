-- The rule of loops, as the code tests it on a row of vertices.
use Rattle.std.proofs.Common.{◌≡◌, ℕ, ◌≢◌, ◌⊎◌, ◌↔◌, inl, inr}
use Rattle.std.proofs.lemmas.Bool.{cases_eq}
use Rattle.model.specs.Specifications.{Spec, Domain, KeepsLoopRule}
use Rattle.graphs.specs.Rows.{Holds}
use Rattle.graphs.specs.declared.row.Row.{Row}
use Rattle.rules.specs.Blocks.{inner_spec}
use Rattle.rules.specs.Loops.{LoopRow}
use Rattle.rules.specs.Parts.{HoldsHeads, HoldsTails}
use Rattle.rules.specs.declared.inner.Inner.{Inner}
use Rattle.rules.proofs.Marking.{heads_held, tails_held}

-- P, or else Q, where P is an equation
or_else : {x y : ℕ} {Q : Type 0} → (x ≢ y → Q) → (x ≡ y) ⊎ Q
or_else {x} {y} f = elim (cases_eq x y) [ inl e ↦ inl e | inr n ↦ inr (f n) ]

but_for : {P Q : Type 0} → P ⊎ Q → (¬ P) → Q
but_for (inl p) n = absurd (n p)
but_for (inr q) n = q

-- the rows hold the domain of block k, the heads and the tails
module _ (s : Spec) (k : ℕ) (row heads tails : Row)
    (held : (x : ℕ) → Holds row x ↔ Domain s k x) (into : HoldsHeads s heads) (out : HoldsTails s tails) where
  loop_so : LoopRow s k row heads tails → KeepsLoopRule s k
  loop_so r = record {
    source_in = (held _).0 r.source_held;
    sink_in = (held _).0 r.sink_held;
    some_in = λ x l d n. (into x).0 (but_for (r.vertices_keep x l ((held x).1 d)).0 n);
    all_in = λ x y d n e. (held y).0 (but_for ((r.edges_keep y x e).0 ((held x).1 d)) n);
    some_out = λ x l d n. (out x).0 (but_for (r.vertices_keep x l ((held x).1 d)).1 n);
    all_out = λ x y d n e. (held y).0 (but_for ((r.edges_keep x y e).1 ((held x).1 d)) n);
  }

  loop_thus : KeepsLoopRule s k → LoopRow s k row heads tails
  loop_thus r = record {
    source_held = (held _).1 r.source_in;
    sink_held = (held _).1 r.sink_in;
    vertices_keep = λ x l h. (or_else (λ n. (into x).1 (r.some_in x l ((held x).0 h) n)), or_else (λ n. (out x).1 (r.some_out x l ((held x).0 h) n)));
    edges_keep = λ x y e. (
      λ h. or_else (λ n. (held x).1 (r.all_in y x ((held y).0 h) n e)),
      λ h. or_else (λ n. (held y).1 (r.all_out x y ((held x).0 h) n e)),
    );
  }

pub loop_keeps : (b : Inner) (row : Row) → ((x : ℕ) → Holds row x ↔ Domain (inner_spec b) b.number x)
    → LoopRow (inner_spec b) b.number row b.drawn.heads b.drawn.tails ↔ KeepsLoopRule (inner_spec b) b.number
loop_keeps b row held = (
  loop_so (inner_spec b) b.number row b.drawn.heads b.drawn.tails held (heads_held b.drawn) (tails_held b.drawn),
  loop_thus (inner_spec b) b.number row b.drawn.heads b.drawn.tails held (heads_held b.drawn) (tails_held b.drawn),
)
