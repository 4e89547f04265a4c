-- A file whose numbers all lie in their ranges states tables whose numbers do.
use Rattle.std.proofs.Common.{◌≡◌, ℕ, ◌<◌, cond, List, length, get_or, sym, ap, ◌∙◌, subst, arith}
use Rattle.std.proofs.lemmas.Bool.{ne_eqb}
use Rattle.records.specs.Kinds.{Within, below, but_zero_lem}
use Rattle.formats.specs.Sections.{stated, section}
use Rattle.formats.specs.SpecFiles.{n_of, m_of, b_of, edges_from, vertices_from, nests_from, ends_from, Framed, AllInside}
use Rattle.formats.specs.Specifications.{made_edge, made_vertex, made_nest, made_ends, no_edge, no_vertex, no_nest, no_ends, Sized, EdgesRanged, HomesRanged, WholeRanged, NestsRanged, EndsRanged}
use Rattle.formats.proofs.Rows.{section_length, section_at}
use Rattle.records.specs.declared.kinds.SpecEdge.{SpecEdge}
use Rattle.records.specs.declared.kinds.Vertex.{Vertex}
use Rattle.records.specs.declared.kinds.Nest.{Nest}
use Rattle.records.specs.declared.kinds.Ends.{Ends}
use Rattle.records.specs.declared.record.Span.{Span}

-- the span of a record but 0
pub past_zero : (i : ℕ) (s : Span) (x : ℕ) → 0 < i → Within (but_zero_lem i s) x → Within s x
past_zero i s x h w =
    let e : but_zero_lem i s ≡ s = ap (λ b. cond b (below 1) s) (ne_eqb i 0 (λ e. omega (arith, e))) in
    subst (λ (s : Span). Within s x) e w

module _ {bytes : List ℕ} (framed : Framed bytes) (inside : AllInside bytes)
    {es : List SpecEdge} {vs : List Vertex} {ns : List Nest} {xs : List Ends}
    (es_is : es ≡ section made_edge bytes (edges_from bytes) (m_of bytes))
    (vs_is : vs ≡ section made_vertex bytes (vertices_from bytes) (n_of bytes))
    (ns_is : ns ≡ section made_nest bytes (nests_from bytes) (b_of bytes))
    (xs_is : xs ≡ section made_ends bytes (ends_from bytes) (b_of bytes)) where
  es_long : length es ≡ m_of bytes
  es_long = ap length es_is ∙ section_length made_edge bytes (edges_from bytes) (m_of bytes)

  vs_long : length vs ≡ n_of bytes
  vs_long = ap length vs_is ∙ section_length made_vertex bytes (vertices_from bytes) (n_of bytes)

  ns_long : length ns ≡ b_of bytes
  ns_long = ap length ns_is ∙ section_length made_nest bytes (nests_from bytes) (b_of bytes)

  xs_long : length xs ≡ b_of bytes
  xs_long = ap length xs_is ∙ section_length made_ends bytes (ends_from bytes) (b_of bytes)

  pub stated_sized : Sized vs ns xs
  stated_sized = (omega (arith, vs_long, framed.1.0.0), omega (arith, ns_long, framed.1.2.0), xs_long ∙ sym ns_long)

  pub stated_edges : EdgesRanged es vs
  stated_edges i h =
      let l : i < m_of bytes = omega (arith, es_long) in
      let e = ap (λ (l : List SpecEdge). get_or l i no_edge) es_is ∙ section_at made_edge bytes (edges_from bytes) (m_of bytes) i no_edge l in
      let t = inside.edges_inside.firsts_in i l in
      let d = inside.edges_inside.seconds_in i l in
      (omega (arith, vs_long, ap (λ (x : SpecEdge). x.tail) e, t.1), omega (arith, vs_long, ap (λ (x : SpecEdge). x.head) e, d.1))

  pub stated_homes : HomesRanged vs ns
  stated_homes x h =
      let l : x < n_of bytes = omega (arith, vs_long) in
      let e = ap (λ (l : List Vertex). get_or l x no_vertex) vs_is ∙ section_at made_vertex bytes (vertices_from bytes) (n_of bytes) x no_vertex l in
      omega (arith, ns_long, ap (λ (v : Vertex). v.home) e, (inside.vertices_inside.firsts_in x l).1)

  nest_at : (k : ℕ) → k < b_of bytes → get_or ns k no_nest ≡ stated made_nest bytes (nests_from bytes) (b_of bytes) k
  nest_at k l = ap (λ (l : List Nest). get_or l k no_nest) ns_is ∙ section_at made_nest bytes (nests_from bytes) (b_of bytes) k no_nest l

  pub stated_whole : WholeRanged ns
  stated_whole =
      let l : 0 < b_of bytes = omega (arith, framed.1.2.0) in
      let e = nest_at 0 l in
      (omega (arith, ap (λ (v : Nest). v.parent) e, (inside.nests_inside.firsts_in 0 l).1), omega (arith, ap (λ (v : Nest). v.kind) e, (inside.nests_inside.seconds_in 0 l).1))

  pub stated_nests : NestsRanged ns
  stated_nests k z h =
      let l : k < b_of bytes = omega (arith, ns_long) in
      let e = nest_at k l in
      let kinds : Span = record { low = 1; end = 3 } in
      let p = past_zero k (below k) (get_or ns k no_nest).parent z (subst (λ (x : ℕ). Within (but_zero_lem k (below k)) x) (sym (ap (λ (v : Nest). v.parent) e)) (inside.nests_inside.firsts_in k l)) in
      let q = past_zero k kinds (get_or ns k no_nest).kind z (subst (λ (x : ℕ). Within (but_zero_lem k kinds) x) (sym (ap (λ (v : Nest). v.kind) e)) (inside.nests_inside.seconds_in k l)) in
      (p.1, q.0, omega (arith, q.1))

  pub stated_ends : EndsRanged xs vs
  stated_ends k h =
      let l : k < b_of bytes = omega (arith, xs_long) in
      let e = ap (λ (l : List Ends). get_or l k no_ends) xs_is ∙ section_at made_ends bytes (ends_from bytes) (b_of bytes) k no_ends l in
      (omega (arith, vs_long, ap (λ (v : Ends). v.source) e, (inside.ends_inside.firsts_in k l).1), omega (arith, vs_long, ap (λ (v : Ends). v.sink) e, (inside.ends_inside.seconds_in k l).1))
