-- The lowest number outside its range, over the sections of a specification file.
use Rattle.std.proofs.Common.{◌≡◌, ℕ, ◌+◌, ◌-◌, ◌*◌, ◌<◌, ◌≤◌, cond, ltb, ◌↔◌, List, Some, None, Option, sym, refl, ap, ◌∙◌, subst, inl, inr, arith, MatchOption}
use Rattle.std.proofs.lemmas.Bool.{cases_lt, lt-ltb, le-ltb}
use Rattle.records.specs.Kinds.{Kind, Within, spec_edge_kind, vertex_kind, nest_kind, ends_kind}
use Rattle.formats.specs.Sections.{first_at, second_at, FirstWithin, SecondWithin, NumberWithin, Inside, Outside, first_out, second_out, Lowest}
use Rattle.formats.specs.SpecFiles.{n_of, m_of, b_of, edges_from, vertices_from, nests_from, ends_from, spec_bounds, AllInside, NumberOutside, of_edges, of_vertices, of_nests, of_ends}
use Rattle.formats.specs.Words.{word}
use Rattle.records.specs.declared.record.Bounds.{Bounds}
use Rattle.records.specs.declared.record.Span.{Span}

-- what is outside stands in the section
module _ {k : Kind} {w : Bounds} {bytes : List ℕ} {base count p : ℕ} where
  pub outside_low : Outside k w bytes base count p → base ≤ p
  outside_low (first_out i h e f) = omega arith
  outside_low (second_out i h e f) = omega arith

  pub outside_high : Outside k w bytes base count p → p < base + 4 * count
  outside_high (first_out i h e f) = omega arith
  outside_high (second_out i h e f) = omega arith

  pub none_outside : Inside k w bytes base count → Outside k w bytes base count p → ⊥
  none_outside a (first_out i h e f) = f (a.firsts_in i h)
  none_outside a (second_out i h e f) = f (a.seconds_in i h)

-- from trying the numbers of a section in turn
module _ (k : Kind) (w : Bounds) (bytes : List ℕ) (base count : ℕ) where
  span_first : (j : ℕ) → j < count → cond (ltb j count) (k.firsts w j) (k.seconds w (j - count)) ≡ k.firsts w j
  span_first j h = ap (λ b. cond b (k.firsts w j) (k.seconds w (j - count))) (lt-ltb j count h)

  span_later : (j : ℕ) → count ≤ j → cond (ltb j count) (k.firsts w j) (k.seconds w (j - count)) ≡ k.seconds w (j - count)
  span_later j h = ap (λ b. cond b (k.firsts w j) (k.seconds w (j - count))) (le-ltb j count h)

  span_second : (j : ℕ) → cond (ltb (count + j) count) (k.firsts w (count + j)) (k.seconds w (count + j - count)) ≡ k.seconds w j
  span_second j = span_later (count + j) (omega arith) ∙ ap (k.seconds w) (omega arith)

  -- what a span says of a number, the span and the number under their names in the section
  told_as : {P : Type 0} {s s' : Span} {x x' : ℕ} → s ≡ s' → x ≡ x' → (P ↔ Within s x) → (P ↔ Within s' x')
  told_as {P = P} {s' = s'} {x = x} a b h = subst (λ (y : ℕ). P ↔ Within s' y) b (subst (λ (t : Span). P ↔ Within t x) a h)

  pub told_first : {P : Type 0} {s : Span} {x : ℕ} (j : ℕ) → j < count → s ≡ k.firsts w j → x ≡ word bytes (base + 2 * j) → (P ↔ Within s x) → (P ↔ NumberWithin k w bytes base count j)
  told_first j h a b t = told_as (a ∙ sym (span_first j h)) b t

  pub told_second : {P : Type 0} {s : Span} {x : ℕ} (j : ℕ) → count ≤ j → s ≡ k.seconds w (j - count) → x ≡ word bytes (base + 2 * j) → (P ↔ Within s x) → (P ↔ NumberWithin k w bytes base count j)
  told_second j h a b t = told_as (a ∙ sym (span_later j h)) b t

  first_number : (j : ℕ) → j < count → NumberWithin k w bytes base count j → FirstWithin k w bytes base count j
  first_number j h n = subst (λ (s : Span). Within s (word bytes (first_at base count j))) (span_first j h) n

  number_first : (j : ℕ) → j < count → FirstWithin k w bytes base count j → NumberWithin k w bytes base count j
  number_first j h n = subst (λ (s : Span). Within s (word bytes (first_at base count j))) (sym (span_first j h)) n

  second_number : (j : ℕ) → NumberWithin k w bytes base count (count + j) → SecondWithin k w bytes base count j
  second_number j n = subst (λ (s : Span). Within s (word bytes (second_at base count j))) (span_second j) n

  number_second : (j : ℕ) → SecondWithin k w bytes base count j → NumberWithin k w bytes base count (count + j)
  number_second j n = subst (λ (s : Span). Within s (word bytes (second_at base count j))) (sym (span_second j)) n

  outside_at : (n : ℕ) → n < 2 * count → (¬ (NumberWithin k w bytes base count n)) → Outside k w bytes base count (base + 2 * n)
  outside_at n h f =
      elim (cases_lt n count) [
        | inl l ↦ first_out n l refl (λ s. f (number_first n l s))
        | inr l ↦
            let same : count + (n - count) ≡ n = omega arith in
            second_out (n - count) (omega arith) (omega arith) (λ s. f (subst (NumberWithin k w bytes base count) same (number_second (n - count) s)))
      ]

  pub lowest_number : (n : ℕ) → n < 2 * count → (¬ (NumberWithin k w bytes base count n)) → ((j : ℕ) → j < n → NumberWithin k w bytes base count j) → Lowest (Outside k w bytes base count) (base + 2 * n)
  lowest_number n h f a = (
    outside_at n h f,
    λ q l. elim [
      | first_out j i e g ↦ g (first_number j i (a j (omega arith)))
      | second_out j i e g ↦ g (second_number j (a (count + j) (omega arith)))
    ],
  )

  pub all_inside : ((j : ℕ) → j < 2 * count → NumberWithin k w bytes base count j) → Inside k w bytes base count
  all_inside a = record { firsts_in = λ j h. first_number j h (a j (omega arith)); seconds_in = λ j h. second_number j (a (count + j) (omega arith)) }

-- the same section under other names
module _ {w w' : Bounds} {bytes bytes' : List ℕ} {base base' count count' : ℕ} (same_w : w ≡ w') (same : (bytes ≡ bytes') × (base ≡ base') × (count ≡ count')) where
  as_named : (P : Bounds → List ℕ → ℕ → ℕ → Type 0) → P w bytes base count → P w' bytes' base' count'
  as_named P h =
      let a = same.0 in
      let b = same.1 in
      let c = same.2 in
      rw (← same_w, ← a, ← b, ← c) h

  pub inside_as : {k : Kind} → Inside k w bytes base count → Inside k w' bytes' base' count'
  inside_as {k = k} = as_named (Inside k)

  pub lowest_as : {k : Kind} {p : ℕ} → Lowest (Outside k w bytes base count) p → Lowest (Outside k w' bytes' base' count') p
  lowest_as {k = k} {p = p} = as_named (λ w b f n. Lowest (Outside k w b f n) p)

-- section by section: those before hold nothing outside, and those after stand higher
module _ (bytes : List ℕ) where
  abbrev EdgesOut : ℕ → Type 0
  EdgesOut = Outside spec_edge_kind (spec_bounds bytes) bytes (edges_from bytes) (m_of bytes)

  abbrev VerticesOut : ℕ → Type 0
  VerticesOut = Outside vertex_kind (spec_bounds bytes) bytes (vertices_from bytes) (n_of bytes)

  abbrev NestsOut : ℕ → Type 0
  NestsOut = Outside nest_kind (spec_bounds bytes) bytes (nests_from bytes) (b_of bytes)

  abbrev EndsOut : ℕ → Type 0
  EndsOut = Outside ends_kind (spec_bounds bytes) bytes (ends_from bytes) (b_of bytes)

  abbrev EdgesIn : Type 0
  EdgesIn = Inside spec_edge_kind (spec_bounds bytes) bytes (edges_from bytes) (m_of bytes)

  abbrev VerticesIn : Type 0
  VerticesIn = Inside vertex_kind (spec_bounds bytes) bytes (vertices_from bytes) (n_of bytes)

  abbrev NestsIn : Type 0
  NestsIn = Inside nest_kind (spec_bounds bytes) bytes (nests_from bytes) (b_of bytes)

  abbrev EndsIn : Type 0
  EndsIn = Inside ends_kind (spec_bounds bytes) bytes (ends_from bytes) (b_of bytes)

  pub lowest_edges : {p : ℕ} → Lowest EdgesOut p → Lowest (NumberOutside bytes) p
  lowest_edges l = (
    of_edges l.0,
    λ q h. elim [
      | of_edges o ↦ l.1 q h o
      | of_vertices o ↦ omega (arith, outside_high l.0, outside_low o)
      | of_nests o ↦ omega (arith, outside_high l.0, outside_low o)
      | of_ends o ↦ omega (arith, outside_high l.0, outside_low o)
    ],
  )

  pub lowest_vertices : {p : ℕ} → EdgesIn → Lowest VerticesOut p → Lowest (NumberOutside bytes) p
  lowest_vertices a l = (
    of_vertices l.0,
    λ q h. elim [
      | of_edges o ↦ none_outside a o
      | of_vertices o ↦ l.1 q h o
      | of_nests o ↦ omega (arith, outside_high l.0, outside_low o)
      | of_ends o ↦ omega (arith, outside_high l.0, outside_low o)
    ],
  )

  pub lowest_nests : {p : ℕ} → EdgesIn → VerticesIn → Lowest NestsOut p → Lowest (NumberOutside bytes) p
  lowest_nests a b l = (
    of_nests l.0,
    λ q h. elim [
      | of_edges o ↦ none_outside a o
      | of_vertices o ↦ none_outside b o
      | of_nests o ↦ l.1 q h o
      | of_ends o ↦ omega (arith, outside_high l.0, outside_low o)
    ],
  )

  lowest_ends : {p : ℕ} → EdgesIn → VerticesIn → NestsIn → Lowest EndsOut p → Lowest (NumberOutside bytes) p
  lowest_ends a b c l = (
    of_ends l.0,
    λ q h. elim [
      | of_edges o ↦ none_outside a o
      | of_vertices o ↦ none_outside b o
      | of_nests o ↦ none_outside c o
      | of_ends o ↦ l.1 q h o
    ],
  )

  pub file_done : (r : Option ℕ) → EdgesIn → VerticesIn → NestsIn → MatchOption r EndsIn (Lowest EndsOut) → MatchOption r (AllInside bytes) (Lowest (NumberOutside bytes))
  file_done None a b c d = record { edges_inside = a; vertices_inside = b; nests_inside = c; ends_inside = d }
  file_done (Some p) a b c d = lowest_ends a b c d
