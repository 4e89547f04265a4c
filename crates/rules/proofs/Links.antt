-- The edges within a row, taken without direction: a graph that is filled with them, edge by edge, and what its closure joins.
use Rattle.std.proofs.Common.{◌≡◌, ℕ, ◌+◌, ◌<◌, T, ◌⊎◌, ◌↔◌, List, length, get_or, sym, subst, inl, inr, arith}
use Rattle.std.proofs.lemmas.Bool.{cases_eq}
use Rattle.model.specs.Paths.{Path*, Path⁺, here, step}
use Rattle.model.proofs.Paths.{path_last}
use Rattle.formats.specs.Specifications.{no_edge, listed}
use Rattle.records.specs.declared.kinds.SpecEdge.{SpecEdge}
use Rattle.graphs.proofs.Closing.{path⁺_map}
use Rattle.graphs.proofs.Rows.{holds_range}
use Rattle.graphs.specs.Graphs.{Graph, Joins}
use Rattle.graphs.specs.Rows.{Holds, vertices}
use Rattle.graphs.specs.declared.row.Row.{Row}
use Rattle.rules.proofs.Ranges.{listed_at, at_listed}

-- the edge joins x and y, in one direction or the other
abbrev pub Between : SpecEdge → ℕ → ℕ → Type 0
Between e x y = ((e.tail ≡ x) × (e.head ≡ y)) ⊎ ((e.tail ≡ y) × (e.head ≡ x))

-- the graph has, in both directions, those of the first m edges that lie within the row
abbrev pub Linking : List SpecEdge → Row → Graph → ℕ → Type 0
Linking es row g m = (x y : ℕ) → Joins g x y ↔ (Holds row x × Holds row y × ((i : ℕ) × (i < m) × Between (get_or es i no_edge) x y))

module _ (es : List SpecEdge) (row : Row) (g : Graph) where
  -- one edge more, which lies within the row
  module _ (g' g'' : Graph) (m : ℕ) (f : Linking es row g m)
      (t : Holds row (get_or es m no_edge).tail) (h : Holds row (get_or es m no_edge).head)
      (there : (x y : ℕ) → Joins g' x y ↔ (Joins g x y ⊎ ((x ≡ (get_or es m no_edge).tail) × (y ≡ (get_or es m no_edge).head) × ((get_or es m no_edge).tail < vertices) × ((get_or es m no_edge).head < vertices))))
      (back : (x y : ℕ) → Joins g'' x y ↔ (Joins g' x y ⊎ ((x ≡ (get_or es m no_edge).head) × (y ≡ (get_or es m no_edge).tail) × ((get_or es m no_edge).head < vertices) × ((get_or es m no_edge).tail < vertices)))) where
    put_so : (x y : ℕ) → Joins g'' x y → Holds row x × Holds row y × ((i : ℕ) × (i < m + 1) × Between (get_or es i no_edge) x y)
    put_so x y j =
        elim ((back x y).0 j) [
          | inl j' ↦
              elim ((there x y).0 j') [
                | inl j'' ↦ let w = (f x y).0 j'' in (w.0, w.1, (w.2.0, omega (arith, w.2.1), w.2.2))
                | inr e ↦ (subst (Holds row) (sym e.0) t, subst (Holds row) (sym e.1) h, (m, omega arith, inl (sym e.0, sym e.1)))
              ]
          | inr e ↦ (subst (Holds row) (sym e.0) h, subst (Holds row) (sym e.1) t, (m, omega arith, inr (sym e.1, sym e.0)))
        ]

    put_new : (x y : ℕ) → Between (get_or es m no_edge) x y → Joins g'' x y
    put_new x y b =
        let t_in = holds_range row (get_or es m no_edge).tail t in
        let h_in = holds_range row (get_or es m no_edge).head h in
        elim b [
          | inl e ↦ (back x y).1 (inl ((there x y).1 (inr (sym e.0, sym e.1, t_in, h_in))))
          | inr e ↦ (back x y).1 (inr (sym e.1, sym e.0, h_in, t_in))
        ]

    pub linking_put : Linking es row g'' (m + 1)
    linking_put x y = (
      put_so x y,
      λ w.
          elim (cases_eq w.2.0 m) [
            | inl e ↦ put_new x y (subst (λ (i : ℕ). Between (get_or es i no_edge) x y) e w.2.2)
            | inr n ↦ (back x y).1 (inl ((there x y).1 (inl ((f x y).1 (w.0, w.1, (w.2.0, omega (arith, n, w.2.1), w.2.2))))))
          ],
    )

  -- one edge more, which does not
  pub linking_skip : (m : ℕ) → Linking es row g m → (¬ (Holds row (get_or es m no_edge).tail × Holds row (get_or es m no_edge).head)) → Linking es row g (m + 1)
  linking_skip m f n x y = (
    (λ j. let w = (f x y).0 j in (w.0, w.1, (w.2.0, omega (arith, w.2.1), w.2.2))),
    λ w.
        elim (cases_eq w.2.0 m) [
          | inl e ↦
              elim (subst (λ (i : ℕ). Between (get_or es i no_edge) x y) e w.2.2) [
                | inl d ↦ absurd (n (subst (Holds row) (sym d.0) w.0, subst (Holds row) (sym d.1) w.1))
                | inr d ↦ absurd (n (subst (Holds row) (sym d.0) w.1, subst (Holds row) (sym d.1) w.0))
              ]
          | inr d ↦ (f x y).1 (w.0, w.1, (w.2.0, omega (arith, d, w.2.1), w.2.2))
        ],
  )

  -- all edges
  all_so : (i x y : ℕ) → i < length es → Between (get_or es i no_edge) x y → T (listed es x y) ⊎ T (listed es y x)
  all_so i x y l (inl e) = inl (subst (λ (a : ℕ). T (listed es a y)) e.0 (subst (λ (b : ℕ). T (listed es (get_or es i no_edge).tail b)) e.1 (at_listed es i l)))
  all_so i x y l (inr e) = inr (subst (λ (a : ℕ). T (listed es a x)) e.0 (subst (λ (b : ℕ). T (listed es (get_or es i no_edge).tail b)) e.1 (at_listed es i l)))

  pub linking_all : (m : ℕ) → m ≡ length es → Linking es row g m → (x y : ℕ) → Joins g x y ↔ (Holds row x × Holds row y × (T (listed es x y) ⊎ T (listed es y x)))
  linking_all m e f x y = (
    (λ j. let w = (f x y).0 j in (w.0, w.1, all_so w.2.0 x y (omega (arith, w.2.1, e)) w.2.2)),
    λ w.
        elim w.2 [
          | inl t ↦ let i = listed_at es x y t in (f x y).1 (w.0, w.1, (i.0, omega (arith, i.1, e), inl (i.2, i.3)))
          | inr t ↦ let i = listed_at es y x t in (f x y).1 (w.0, w.1, (i.0, omega (arith, i.1, e), inr (i.2, i.3)))
        ],
  )

-- the closure of a graph of the relation L joins what a path of L joins
module _ (L : ℕ → ℕ → Type 0) (g g' : Graph) (law : (x y : ℕ) → Joins g x y ↔ L x y) (closed : (x y : ℕ) → Joins g' x y ↔ Path⁺ (Joins g) x y) where
  pub reached : (x y : ℕ) → ((y ≡ x) ⊎ Joins g' x y) ↔ Path* L x y
  reached x y = (
    (λ h. elim h [
      | inl e ↦ subst (Path* L x) (sym e) here
      | inr j ↦ let p = path⁺_map {Q = L} (λ a b. (law a b).0) ((closed x y).0 j) in step p.1 p.2
    ]),
    λ p. elim (path_last p) [
      | inl e ↦ inl (sym e)
      | inr q ↦ inr ((closed x y).1 (path⁺_map {Q = Joins g} (λ a b. (law a b).1) q))
    ],
  )
