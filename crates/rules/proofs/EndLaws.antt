-- Vertices missing from the rows of heads and tails, and the ends of block 0.
use Rattle.std.proofs.Common.{ℕ, ◌<◌, ◌↔◌}
use Rattle.model.specs.Specifications.{Spec, Edge, HasWholeEnds}
use Rattle.graphs.specs.Rows.{Holds}
use Rattle.graphs.specs.declared.row.Row.{Row}
use Rattle.rules.specs.Blocks.{drawn_spec}
use Rattle.rules.specs.Loops.{ends_at}
use Rattle.rules.specs.Parts.{HoldsHeads, HoldsTails, EndsFit}
use Rattle.rules.specs.declared.drawn.Drawn.{Drawn}
use Rattle.rules.proofs.Marking.{heads_held, tails_held}

module _ (s : Spec) (heads tails : Row) (into : HoldsHeads s heads) (out : HoldsTails s tails) where
  no_edge_in : (x : ℕ) → (¬ (Holds heads x)) ↔ ((y : ℕ) → ¬ (Edge s y x))
  no_edge_in x = ((λ n y e. n ((into x).1 (y, e))), λ f h. let w = (into x).0 h in f w.0 w.1)

  no_edge_out : (x : ℕ) → (¬ (Holds tails x)) ↔ ((y : ℕ) → ¬ (Edge s x y))
  no_edge_out x = ((λ n y e. n ((out x).1 (y, e))), λ f h. let w = (out x).0 h in f w.0 w.1)

  whole_so : ((x : ℕ) → x < s.n → EndsFit heads tails (ends_at s 0) x) → HasWholeEnds s
  whole_so f = record {
    only_source = λ x l. ((λ n. (f x l).source_fits.0 ((no_edge_in x).1 n)), λ e. (no_edge_in x).0 ((f x l).source_fits.1 e));
    only_sink = λ x l. ((λ n. (f x l).sink_fits.0 ((no_edge_out x).1 n)), λ e. (no_edge_out x).0 ((f x l).sink_fits.1 e));
  }

  whole_thus : HasWholeEnds s → (x : ℕ) → x < s.n → EndsFit heads tails (ends_at s 0) x
  whole_thus w x l = record {
    source_fits = ((λ n. (w.only_source x l).0 ((no_edge_in x).0 n)), λ e. (no_edge_in x).1 ((w.only_source x l).1 e));
    sink_fits = ((λ n. (w.only_sink x l).0 ((no_edge_out x).0 n)), λ e. (no_edge_out x).1 ((w.only_sink x l).1 e));
  }

pub whole_fit : (d : Drawn) → ((x : ℕ) → x < (drawn_spec d).n → EndsFit d.heads d.tails (ends_at (drawn_spec d) 0) x) ↔ HasWholeEnds (drawn_spec d)
whole_fit d = (whole_so (drawn_spec d) d.heads d.tails (heads_held d) (tails_held d), whole_thus (drawn_spec d) d.heads d.tails (heads_held d) (tails_held d))
