-- An edge of an ascending list, found by halving.
use Rattle.std.proofs.Common.{◌≡◌, ℕ, zero, suc, ◌+◌, ◌-◌, ◌<◌, ◌≤◌, T, ◌↔◌, List, length, get_or, sym, ◌∙◌, subst, inl, inr, arith}
use Rattle.std.proofs.lemmas.Bool.{cases_eq, cases_lt}
use Rattle.model.proofs.Cases.{cases}
use Rattle.formats.proofs.Pairs.{pair_at, at_pair}
use Rattle.formats.specs.Runs.{no_run_edge, lists_edge, TailsAscend, HeadsAscend}
use Rattle.records.specs.declared.kinds.RunEdge.{RunEdge}
use Rattle.conformance.specs.Listing.{Below, Stands}

pub stands_so : (es : List RunEdge) (u w : ℕ) → T (lists_edge es u w) → (k : ℕ) × Stands es u w k
stands_so es u w t = let p = pair_at (λ (e : RunEdge). e.tail) (λ e. e.head) no_run_edge es u w t in (p.0, (p.1, p.2, p.3))

pub stands_thus : (es : List RunEdge) (u w k : ℕ) → Stands es u w k → T (lists_edge es u w)
stands_thus es u w k h = at_pair (λ (e : RunEdge). e.tail) (λ e. e.head) no_run_edge es u w k h.0 h.1 h.2

module _ (es : List RunEdge) (tails : TailsAscend es) (heads : HeadsAscend es) where
  abbrev tail_at : ℕ → ℕ
  tail_at k = (get_or es k no_run_edge).tail

  abbrev head_at : ℕ → ℕ
  head_at k = (get_or es k no_run_edge).head

  below_through : (j k : ℕ) {u w : ℕ} → Below es (tail_at k) (head_at k) j → Below es u w k → Below es u w j
  below_through j k (inl a) (inl b) = inl (omega arith)
  below_through j k (inl a) (inr b) = inl (omega (arith, b.0))
  below_through j k (inr a) (inl b) = inl (omega (arith, a.0))
  below_through j k (inr a) (inr b) = inr (a.0 ∙ b.0, omega (arith, a.1, b.1))

  before_next : (k : ℕ) → suc k < length es → Below es (tail_at (suc k)) (head_at (suc k)) k
  before_next k l =
      let same : suc k - 1 ≡ k = omega arith in
      let a : tail_at k ≤ tail_at (suc k) = subst (λ i. tail_at i ≤ tail_at (suc k)) same (tails (suc k) (omega arith) l) in
      let b : tail_at k ≡ tail_at (suc k) → head_at k < head_at (suc k)
      = subst (λ i. tail_at i ≡ tail_at (suc k) → head_at i < head_at (suc k)) same (heads (suc k) (omega arith) l) in
      cases (cases_eq (tail_at k) (tail_at (suc k))) (λ e. inr (e, b e)) (λ d. inl (omega (arith, a, d)))

  -- an edge comes before each that stands after it
  pub before_later : (j k : ℕ) → j < k → k < length es → Below es (tail_at k) (head_at k) j
  before_later j zero h l = absurd (omega arith)
  before_later j (suc k) h l = cases (cases_eq j k)
      (λ e. subst (λ i. Below es (tail_at (suc k)) (head_at (suc k)) i) (sym e) (before_next k l))
      (λ d. below_through j k (before_later j k (omega (arith, d)) (omega arith)) (before_next k l))

  never_below : (k : ℕ) {u w : ℕ} → tail_at k ≡ u → head_at k ≡ w → ¬ (Below es u w k)
  never_below k e f (inl a) = omega arith
  never_below k e f (inr a) = omega (arith, a.1)

  module _ (u w : ℕ) where
    -- the edges before `low` come before the edge from u to w, and those from `high` on do not
    pub record Narrowed (low high : ℕ) : Type 0 where
      pub in_order : low ≤ high
      pub in_list : high ≤ length es
      pub under : (k : ℕ) → k < low → Below es u w k
      pub over : (k : ℕ) → high ≤ k → k < length es → ¬ (Below es u w k)

    pub narrowed_low : {low high : ℕ} (k : ℕ) → Narrowed low high → low ≤ k → k < high → Below es u w k → Narrowed (k + 1) high
    narrowed_low k n a h b = record {
      in_order = omega arith;
      in_list = n.in_list;
      under = λ j l. cases (cases_eq j k) (λ e. subst (Below es u w) (sym e) b) (λ d. below_through j k (before_later j k (omega (arith, d)) (omega (arith, n.in_list))) b);
      over = n.over;
    }

    pub narrowed_high : {low high : ℕ} (k : ℕ) → Narrowed low high → low ≤ k → k < high → (¬ (Below es u w k)) → Narrowed low k
    narrowed_high k n a h f = record {
      in_order = a;
      in_list = omega (arith, n.in_list);
      under = n.under;
      over = λ j l m b. f (cases (cases_eq j k) (λ e. subst (Below es u w) e b) (λ d. below_through k j (before_later k j (omega (arith, d)) m) b));
    }

    -- where nothing is left between them, the edge stands there or nowhere
    pub narrowed_done : {low high : ℕ} → Narrowed low high → high ≤ low → {P : Type 0} → P ↔ Stands es u w low → P ↔ T (lists_edge es u w)
    narrowed_done {low} n h p = (
      (λ x. stands_thus es u w low (p.0 x)),
      λ t.
          let s = stands_so es u w t in
          let k = s.0 in
          let g : ¬ (Below es u w k) = never_below k s.1.1 s.1.2 in
          p.1 (cases (cases_lt k low) (λ a. absurd (g (n.under k a))) λ a. cases (cases_eq k low)
          (λ e. subst (Stands es u w) e s.1)
          (λ d. absurd (n.over low h (omega (arith, s.1.0, d)) (subst (λ x. Below es x w low) s.1.1 (subst (λ y. Below es (tail_at k) y low) s.1.2 (before_later low k (omega (arith, d)) s.1.0)))))),
    )
