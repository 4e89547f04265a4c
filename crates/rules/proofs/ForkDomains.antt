-- The rule of a fork's domain, as the code tests it on rows of vertices.
use Rattle.std.proofs.Common.{ℕ, ◌<◌, ◌↔◌, inl, inr}
use Rattle.model.specs.Paths.{Path*}
use Rattle.model.specs.Specifications.{Spec, Domain, Link, ForkDomain}
use Rattle.model.proofs.Cases.{cases}
use Rattle.model.proofs.Paths.{path_join, path_map, path_turn}
use Rattle.graphs.specs.Rows.{Holds}
use Rattle.graphs.specs.declared.row.Row.{Row}
use Rattle.rules.specs.Blocks.{inner_spec}
use Rattle.rules.specs.Forks.{Linked, ForkRow}
use Rattle.rules.specs.Parts.{HoldsHeads, HoldsTails}
use Rattle.rules.specs.declared.inner.Inner.{Inner}
use Rattle.rules.proofs.InDomain.{domain_low}
use Rattle.rules.proofs.Marking.{heads_held, tails_held}

module _ (s : Spec) (k : ℕ) (row heads tails : Row)
    (held : (x : ℕ) → Holds row x ↔ Domain s k x) (low : (x : ℕ) → Domain s k x → x < s.n)
    (into : HoldsHeads s heads) (out : HoldsTails s tails) where
  so : (x : ℕ) → Holds row x → Domain s k x
  so x h = (held x).0 h

  thus : (x : ℕ) → Domain s k x → Holds row x
  thus x d = (held x).1 d

  turned : (x y : ℕ) → Linked s row x y → Linked s row y x
  turned x y l = (l.1, l.0, cases l.2 inr inl)

  any_two : (x : ℕ) → ((y : ℕ) → Holds row y → Path* (Linked s row) x y) → (y z : ℕ) → Holds row y → Holds row z → Path* (Link s k) y z
  any_two x f y z h i =
      path_map (λ a b l. (so a l.0, so b l.1, l.2)) (path_join (path_turn {R = Linked s row} (path_map turned (f y h))) (f z i))

  rule_so : (x : ℕ) → Holds row x → ForkRow s k row heads tails x → ForkDomain s k
  rule_so x h r = record {
    not_empty = (x, low x (so x h), so x h);
    source_out = λ d. r.source_off (thus (s.source k) d);
    sink_out = λ d. r.sink_off (thus (s.sink k) d);
    fork_some_in = λ y l d. (into y).0 (r.all_heads y (thus y d));
    fork_all_in = λ y z d e. cases ((r.edges_stay z y e).0 (thus y d)) (λ i. inl (so z i)) inr;
    fork_some_out = λ y l d. (out y).0 (r.all_tails y (thus y d));
    fork_all_out = λ y z d e. cases ((r.edges_stay y z e).1 (thus y d)) (λ i. inl (so z i)) inr;
    connected = λ y z l m d e. any_two x r.connects y z (thus y d) (thus z e);
  }

  rule_thus : (x : ℕ) → Holds row x → ForkDomain s k → ForkRow s k row heads tails x
  rule_thus x h f = record {
    source_off = λ i. f.source_out (so (s.source k) i);
    sink_off = λ i. f.sink_out (so (s.sink k) i);
    all_heads = λ y i. (into y).1 (f.fork_some_in y (low y (so y i)) (so y i));
    all_tails = λ y i. (out y).1 (f.fork_some_out y (low y (so y i)) (so y i));
    edges_stay = λ y z e. (
      (λ i. cases (f.fork_all_in z y (so z i) e) (λ d. inl (thus y d)) inr),
      λ i. cases (f.fork_all_out y z (so y i) e) (λ d. inl (thus z d)) inr,
    );
    connects = λ y i.
        path_map (λ a b l. (thus a l.0, thus b l.1, l.2)) (f.connected x y (low x (so x h)) (low y (so y i)) (so x h) (so y i));
  }

-- the rule of forks for the domain of a block
module _ (b : Inner) (row : Row) (held : (x : ℕ) → Holds row x ↔ Domain (inner_spec b) b.number x) where
  pub fork_keeps : (x : ℕ) → Holds row x → ForkRow (inner_spec b) b.number row b.drawn.heads b.drawn.tails x ↔ ForkDomain (inner_spec b) b.number
  fork_keeps x h =
      let low = domain_low b.drawn.parts b.number b.inside.0 in (
        rule_so (inner_spec b) b.number row b.drawn.heads b.drawn.tails held low (heads_held b.drawn) (tails_held b.drawn) x h,
        rule_thus (inner_spec b) b.number row b.drawn.heads b.drawn.tails held low (heads_held b.drawn) (tails_held b.drawn) x h,
      )
