-- A row that is filled from below: it holds those below n of which P holds.
use Rattle.std.proofs.Common.{◌≡◌, ℕ, ◌+◌, ◌<◌, ◌⊎◌, ◌↔◌, sym, subst, inl, inr, arith}
use Rattle.std.proofs.lemmas.Bool.{cases_eq}
use Rattle.graphs.specs.Rows.{Holds, vertices}
use Rattle.graphs.specs.declared.row.Row.{Row}

abbrev pub Filled : (ℕ → Type 0) → Row → ℕ → Type 0
Filled P row n = (y : ℕ) → Holds row y ↔ ((y < n) × P y)

module _ (P : ℕ → Type 0) (row : Row) where
  pub filled_put : (row' : Row) (x : ℕ) → Filled P row x → x < vertices → P x → ((y : ℕ) → Holds row' y ↔ (Holds row y ⊎ ((y ≡ x) × (x < vertices)))) → Filled P row' (x + 1)
  filled_put row' x f l p g y = (
    (λ h. elim ((g y).0 h) [ inl a ↦ (omega (arith, ((f y).0 a).0), ((f y).0 a).1) | inr a ↦ (omega (arith, a.0), subst P (sym a.0) p) ]),
    λ h. elim (cases_eq y x) [ inl e ↦ (g y).1 (inr (e, l)) | inr n ↦ (g y).1 (inl ((f y).1 (omega (arith, n, h.0), h.1))) ],
  )

  pub filled_skip : (x : ℕ) → Filled P row x → (¬ (P x)) → Filled P row (x + 1)
  filled_skip x f n y = (
    (λ h. (omega (arith, ((f y).0 h).0), ((f y).0 h).1)),
    λ h. elim (cases_eq y x) [ inl e ↦ absurd (n (subst P e h.1)) | inr d ↦ (f y).1 (omega (arith, d, h.0), h.1) ],
  )
