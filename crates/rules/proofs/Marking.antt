-- A row that is filled with one end of each edge, and the rows of all heads and of all tails.
use Rattle.std.proofs.Common.{◌≡◌, ℕ, suc, ◌+◌, ◌<◌, Bool, true, ◌||◌, T, ◌⊎◌, ◌↔◌, List, [], ◌∷◌, length, get_or, take, ◌==◌, sym, ◌∙◌, subst, inl, inr, arith}
use Rattle.std.specs.List.{list_any}
use Rattle.std.proofs.lemmas.Bool.{eqb-true, eq-eqb, or_cases, or_left, or_right}
use Rattle.std.proofs.lemmas.List.Folds.{list_any_at, list_any_more}
use Rattle.formats.specs.Specifications.{no_edge, listed}
use Rattle.records.specs.declared.kinds.SpecEdge.{SpecEdge}
use Rattle.graphs.specs.Rows.{Holds, vertices}
use Rattle.graphs.specs.declared.row.Row.{Row}
use Rattle.rules.specs.Blocks.{drawn_spec}
use Rattle.rules.specs.Parts.{Marks, HoldsHeads, HoldsTails, head_at, tail_at}
use Rattle.rules.specs.declared.drawn.Drawn.{Drawn}
use Rattle.rules.proofs.Ranges.{listed_at, at_listed}

module _ (end : SpecEdge → ℕ) where
  abbrev is_end : ℕ → SpecEdge → Bool
  is_end x e = end e == x

  pub marks_more : (es : List SpecEdge) (row row' : Row) (n : ℕ) → Marks end (take n es) row → n < length es → end (get_or es n no_edge) < vertices
      → ((y : ℕ) → Holds row' y ↔ (Holds row y ⊎ ((y ≡ end (get_or es n no_edge)) × (end (get_or es n no_edge) < vertices)))) → Marks end (take (n + 1) es) row'
  marks_more es row row' n m l v k x =
      let there = list_any (is_end x) (take n es) in
      let last = is_end x (get_or es n no_edge) in
      let both : list_any (is_end x) (take (n + 1) es) ≡ (there || last) = list_any_more (is_end x) es n no_edge l in (
        (λ h. both ∙ elim ((k x).0 h) [ inl a ↦ or_left there last ((m x).0 a) | inr a ↦ or_right there last (eq-eqb _ x (sym a.0)) ]),
        λ t. (k x).1 (elim (or_cases there last (sym both ∙ t)) [ inl a ↦ inl ((m x).1 a) | inr a ↦ inr (sym (eqb-true _ x a), v) ]),
      )

  -- an edge that has x as its end
  marked_at : (es : List SpecEdge) (x : ℕ) → list_any (is_end x) es ≡ true → (i : ℕ) × (i < length es) × (end (get_or es i no_edge) ≡ x)
  marked_at [] x t = absurd (cc)
  marked_at (e ∷ es) x t = elim (or_cases (is_end x e) (list_any (is_end x) es) t) [
    | inl h ↦ (0, omega arith, eqb-true (end e) x h)
    | inr h ↦ let w = marked_at es x h in (suc w.0, omega (arith, w.1), w.2)
  ]

pub heads_held : (d : Drawn) → HoldsHeads (drawn_spec d) d.heads
heads_held d x =
    let es = d.parts.edges.now in (
      (λ h. let w = marked_at (λ e. e.head) es x ((d.into x).0 h) in (tail_at es w.0, subst (λ (y : ℕ). T (listed es (tail_at es w.0) y)) w.2 (at_listed es w.0 w.1))),
      λ t. let w = listed_at es t.0 x t.1 in (d.into x).1 (list_any_at (λ e. e.head == x) es w.0 no_edge w.1 (eq-eqb _ x w.3)),
    )

pub tails_held : (d : Drawn) → HoldsTails (drawn_spec d) d.tails
tails_held d x =
    let es = d.parts.edges.now in (
      (λ h. let w = marked_at (λ e. e.tail) es x ((d.out x).0 h) in (head_at es w.0, subst (λ (y : ℕ). T (listed es y (head_at es w.0))) w.2 (at_listed es w.0 w.1))),
      λ t. let w = listed_at es x t.0 t.1 in (d.out x).1 (list_any_at (λ e. e.tail == x) es w.0 no_edge w.1 (eq-eqb _ x w.2)),
    )
