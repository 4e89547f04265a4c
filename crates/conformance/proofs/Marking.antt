-- Steps of a run, gone through in their order.
use Rattle.std.proofs.Common.{◌≡◌, ℕ, ◌+◌, ◌<◌, ◌⊎◌, ◌↔◌, sym, ap, ◌∙◌, subst, inl, inr, arith, below_more}
use Rattle.std.proofs.lemmas.Bool.{cases_eq, cases_order}
use Rattle.model.specs.Specifications.{Spec}
use Rattle.model.specs.Runs.{Run}
use Rattle.records.specs.Kinds.{copy_kind}
use Rattle.formats.specs.Sections.{Lowest}
use Rattle.graphs.specs.Grids.{Marks}
use Rattle.graphs.specs.declared.grid.Grid.{Grid}
use Rattle.graphs.proofs.Grids.{marks_or}
use Rattle.conformance.specs.Nonconforming.{Repeats, Once, ShortOf, Stepped}
use Rattle.conformance.specs.Steps.{MarksSteps, PairFits, Unmarked}
use Rattle.conformance.specs.Trials.{trial_spec, trial_run}
use Rattle.conformance.specs.declared.trial.Trial.{Trial}
use Rattle.conformance.proofs.RunRanges.{copies_few}
use Rattle.conformance.proofs.Tabled.{vertices_few}

-- contexts and origins have a place in a grid
pub pair_fits : (t : Trial) → t.run.vertices ≡ (trial_spec t).n → (u : ℕ) → u < (trial_run t).v → PairFits (trial_run t) u
pair_fits t e u h = let p = t.run.placed u h in (omega (arith, p.0, copies_few t), omega (arith, p.1, vertices_few t.specification.now, e))

-- the grid marks contexts with origins of the steps below u, of which none repeats another
pub record Marking (r : Run) (g : Grid copy_kind.ceiling) (u : ℕ) : Type 0 where
  pub below : (i x : ℕ) → Marks g i x ↔ ((w : ℕ) × (w < u) × (r.context w ≡ i) × (r.origin w ≡ x))
  pub fresh : (w : ℕ) → w < u → Repeats r w → ⊥

module _ (r : Run) (g : Grid copy_kind.ceiling) (u : ℕ) (k : Marking r g u) where
  again : Repeats r u → Marks g (r.context u) (r.origin u)
  again p = (k.below (r.context u) (r.origin u)).1 p.1

  pub marking_repeats : u < r.v → Marks g (r.context u) (r.origin u) → Lowest (Repeats r) u
  marking_repeats h m = ((h, (k.below (r.context u) (r.origin u)).0 m), k.fresh)

  pub marking_more : (g' : Grid copy_kind.ceiling) → PairFits r u → (¬ (Marks g (r.context u) (r.origin u)))
      → ((i x : ℕ) → Marks g' i x ↔ (Marks g i x ⊎ ((i ≡ r.context u) × (x ≡ r.origin u) × PairFits r u))) → Marking r g' (u + 1)
  marking_more g' fits f law = record {
    below = λ i x. (
      (λ m. elim ((law i x).0 m) [
        | inl a ↦ let w = (k.below i x).0 a in (w.0, omega (arith, w.1), w.2, w.3)
        | inr a ↦ (u, omega arith, sym a.0, sym a.1)
      ]),
      λ w. elim (cases_eq w.0 u) [
        | inl e ↦ (law i x).1 (inr (sym w.2 ∙ ap (λ (j : ℕ). r.context j) e, sym w.3 ∙ ap (λ (j : ℕ). r.origin j) e, fits))
        | inr d ↦ (law i x).1 (inl ((k.below i x).1 (w.0, omega (arith, w.1, d), w.2, w.3)))
      ],
    );
    fresh = below_more (λ (w : ℕ). Repeats r w → ⊥) u k.fresh (λ p. f (again p));
  }

  pub marking_all : u ≡ r.v → Once r × MarksSteps r g
  marking_all e = (
    (λ a b la lb c o. elim (cases_order a b) [
      | inl same ↦ same
      | inr s ↦ elim s [
        | inl l ↦ absurd (k.fresh b (omega arith) (lb, (a, l, c, o)))
        | inr l ↦ absurd (k.fresh a (omega arith) (la, (b, l, sym c, sym o)))
      ]
    ]),
    subst (λ (n : ℕ). (i x : ℕ) → Marks g i x ↔ ((w : ℕ) × (w < n) × (r.context w ≡ i) × (r.origin w ≡ x))) e k.below,
  )

-- where the grid tells of the steps, a copy is short of a step exactly if a vertex at home in its block is not marked with it
module _ (s : Spec) (r : Run) (g : Grid copy_kind.ceiling) (k : MarksSteps r g) where
  pub short_of_unmarked : {i : ℕ} → i < r.c → Unmarked s r g i → ShortOf s r i
  short_of_unmarked {i} l u = (l, (u.0, u.1, u.2, λ h. u.3 ((k i u.0).1 h)))

  pub unmarked_of_short : {i : ℕ} → ShortOf s r i → Unmarked s r g i
  unmarked_of_short {i} p = let x = p.1 in (x.0, x.1, x.2, λ m. x.3 ((k i x.0).0 m))

  pub stepped_of : ((i : ℕ) → i < r.c → ¬ (Unmarked s r g i)) → Stepped s r
  stepped_of f i x l h e = elim (marks_or g i x) [ inl m ↦ (k i x).0 m | inr d ↦ absurd (f i l (x, h, e, d)) ]
