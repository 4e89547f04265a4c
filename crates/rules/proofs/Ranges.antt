-- Tables whose numbers lie in their ranges are a specification whose numbers do.
use Rattle.std.proofs.Common.{◌≡◌, ℕ, ◌<◌, ◌≤◌, T, ◌⊎◌, List, length, get_or, refl, ap, subst, inl, inr, arith}
use Rattle.std.proofs.lemmas.List.{get_or_past}
use Rattle.std.proofs.lemmas.Bool.{cases_eq, cases_lt}
use Rattle.model.specs.Forests.{Falls}
use Rattle.model.specs.Specifications.{InRanges}
use Rattle.formats.proofs.Pairs.{pair_at, at_pair}
use Rattle.formats.specs.Specifications.{no_edge, no_nest, listed, spec_from, Sized, EdgesRanged, HomesRanged, WholeRanged, NestsRanged, EndsRanged}
use Rattle.records.specs.declared.kinds.SpecEdge.{SpecEdge}
use Rattle.records.specs.declared.kinds.Vertex.{Vertex}
use Rattle.records.specs.declared.kinds.Nest.{Nest}
use Rattle.records.specs.declared.kinds.Ends.{Ends}

pub falls_of : (ns : List Nest) → WholeRanged ns → NestsRanged ns → Falls (λ k. (get_or ns k no_nest).parent)
falls_of ns w f = record { zero_parent = w.0; falls = λ k z. go k z (cases_lt k (length ns)) }
  where
    go : (k : ℕ) → 0 < k → (k < length ns) ⊎ (length ns ≤ k) → (get_or ns k no_nest).parent < k
    go k z (inl h) = (f k z h).0
    go k z (inr h) = omega (arith, ap (λ (x : Nest). x.parent) (get_or_past ns k no_nest h))

-- an edge is listed where it stands at some index
pub listed_at : (es : List SpecEdge) (x y : ℕ) → T (listed es x y) → (i : ℕ) × (i < length es) × ((get_or es i no_edge).tail ≡ x) × ((get_or es i no_edge).head ≡ y)
listed_at es x y t = pair_at (λ e. e.tail) (λ e. e.head) no_edge es x y t

pub at_listed : (es : List SpecEdge) (i : ℕ) → i < length es → T (listed es (get_or es i no_edge).tail (get_or es i no_edge).head)
at_listed es i h = at_pair (λ e. e.tail) (λ e. e.head) no_edge es _ _ i h refl refl

kind_of : {k : ℕ} → 1 ≤ k → k ≤ 2 → (k ≡ 1) ⊎ (k ≡ 2)
kind_of {k} a b = elim (cases_eq k 1) [ inl e ↦ inl e | inr n ↦ inr (omega (arith, n)) ]

pub ranges_of : (es : List SpecEdge) (vs : List Vertex) (ns : List Nest) (xs : List Ends) → Sized vs ns xs → EdgesRanged es vs → HomesRanged vs ns → WholeRanged ns → NestsRanged ns → EndsRanged xs vs → InRanges (spec_from es vs ns xs)
ranges_of es vs ns xs z e h w n x = record {
  edge_range = λ a b t. let i = listed_at es a b t in (subst (λ (v : ℕ). v < length vs) i.2 (e i.0 i.1).0, subst (λ (v : ℕ). v < length vs) i.3 (e i.0 i.1).1);
  home_range = h;
  nest = falls_of ns w n;
  whole = w.1;
  kinds = λ k p l. kind_of (n k p l).1 (n k p l).2;
  source_range = λ k l. (x k (omega (arith, z.2))).0;
  sink_range = λ k l. (x k (omega (arith, z.2))).1;
}
