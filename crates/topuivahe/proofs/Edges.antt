-- What a look through the edges of a specification tells of the specification.
use Rattle.std.proofs.Common.{◌≡◌, ℕ, ◌<◌, Bool, T, ◌↔◌, List, length, get_or, subst}
use Rattle.std.specs.List.{HoldsAt}
use Rattle.formats.specs.Specifications.{listed, no_edge}
use Rattle.records.specs.declared.kinds.SpecEdge.{SpecEdge}
use Rattle.rules.proofs.Ranges.{at_listed, listed_at}

module _ (es : List SpecEdge) (r : Bool) where
  -- r tells whether P holds of some edge
  abbrev pub Tells : (SpecEdge → Type 0) → Type 0
  Tells P = (T r → (i : ℕ) × (i < length es) × HoldsAt P es i) × ((i : ℕ) (d : SpecEdge) → i < length es → P (get_or es i d) → T r)

  pub tells_edge : (x y : ℕ) → Tells (λ e. (e.tail ≡ x) × (e.head ≡ y)) → T r ↔ T (listed es x y)
  tells_edge x y h = (
    λ w.
        let i = h.0 w in
        let e = i.2 no_edge in
        let from : T (listed es x (get_or es i.0 no_edge).head) = subst (λ (v : ℕ). T (listed es v (get_or es i.0 no_edge).head)) e.0 (at_listed es i.0 i.1) in
        subst (λ (v : ℕ). T (listed es x v)) e.1 from,
    λ w. let i = listed_at es x y w in h.1 i.0 no_edge i.1 (i.2, i.3),
  )

  pub tells_entered : (x : ℕ) → Tells (λ e. e.head ≡ x) → T r ↔ ((y : ℕ) × T (listed es y x))
  tells_entered x h = (
    λ w. let i = h.0 w in ((get_or es i.0 no_edge).tail, subst (λ (v : ℕ). T (listed es (get_or es i.0 no_edge).tail v)) (i.2 no_edge) (at_listed es i.0 i.1)),
    λ w. let i = listed_at es w.0 x w.1 in h.1 i.0 no_edge i.1 i.3,
  )

  pub tells_left : (x : ℕ) → Tells (λ e. e.tail ≡ x) → T r ↔ ((y : ℕ) × T (listed es x y))
  tells_left x h = (
    λ w. let i = h.0 w in ((get_or es i.0 no_edge).head, subst (λ (v : ℕ). T (listed es v (get_or es i.0 no_edge).head)) (i.2 no_edge) (at_listed es i.0 i.1)),
    λ w. let i = listed_at es x w.0 w.1 in h.1 i.0 no_edge i.1 i.2,
  )
