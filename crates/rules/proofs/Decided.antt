-- The refusals of sealing exclude each other.
use Rattle.std.proofs.Common.{◌≡◌, ℕ, ◌<◌, sym, refl, ap, ◌∙◌, subst, inl, inr, arith}
use Rattle.std.proofs.lemmas.Bool.{cases_lt, cases_eq}
use Rattle.model.specs.Specifications.{Spec, Sealed, KeepsLoopRule, KeepsForkRule, Distinct}
use Rattle.formats.specs.declared.faults.Fault.{Fault}
use Rattle.formats.proofs.Decided.{lowest_one}
use Rattle.rules.specs.Deciding.{SealingLaw}
use Rattle.rules.specs.Unsealed.{OnCycle, KeepsRule, Passes, PassedBelow, Unsealed, cyclic, wrong_ends, breaks_loop, breaks_fork, same_domain}

two_kinds : (s : Spec) {j k : ℕ} → j ≡ k → s.kind j ≡ 2 → s.kind k ≡ 1 → ⊥
two_kinds s e a b = omega (arith, sym a ∙ ap s.kind e ∙ b)

module _ {s : Spec} where
  -- the first block that does not pass is one
  first_one : {j k : ℕ} → 0 < j → 0 < k → PassedBelow s j → PassedBelow s k → (¬ (Passes s j)) → (¬ (Passes s k)) → j ≡ k
  first_one {j} {k} zj zk pj pk nj nk = elim (cases_lt j k) [
    | inl h ↦ absurd (nj (pk j zj h))
    | inr h ↦ elim (cases_eq j k) [ inl e ↦ e | inr n ↦ absurd (nk (pj k zk (omega (arith, n)))) ]
  ]

  fails_loop : {k : ℕ} → s.kind k ≡ 2 → (¬ (KeepsLoopRule s k)) → ¬ (Passes s k)
  fails_loop e n p = n (p.keeps.as_loop e)

  fails_fork : {k : ℕ} → s.kind k ≡ 1 → (¬ (KeepsForkRule s k)) → ¬ (Passes s k)
  fails_fork e n p = n (p.keeps.as_fork e)

  fails_apart : {k : ℕ} → (¬ (Distinct s k)) → ¬ (Passes s k)
  fails_apart n p = n p.apart

  keeps_loop : {j k : ℕ} → j ≡ k → s.kind j ≡ 2 → (¬ (KeepsLoopRule s j)) → KeepsRule s k → ⊥
  keeps_loop {j} {k} e a n r = n ((subst (KeepsRule s) (sym e) r).as_loop a)

  keeps_fork : {j k : ℕ} → j ≡ k → s.kind j ≡ 1 → (¬ (KeepsForkRule s j)) → KeepsRule s k → ⊥
  keeps_fork {j} {k} e a n r = n ((subst (KeepsRule s) (sym e) r).as_fork a)

  one : {f g : Fault} → Unsealed s f → Unsealed s g → f ≡ g
  one (cyclic a) (cyclic b) = ap (λ x. record { layer = 2; number = 6; place = x }) (lowest_one (OnCycle s) a b)
  one (cyclic {x} a) (wrong_ends b c) = absurd (b x a.0)
  one (cyclic {x} a) (breaks_loop b c d e f g h) = absurd (b x a.0)
  one (cyclic {x} a) (breaks_fork b c d e f g h) = absurd (b x a.0)
  one (cyclic {x} a) (same_domain b c d e f g h) = absurd (b x a.0)
  one (wrong_ends a b) (cyclic {x} c) = absurd (a x c.0)
  one (wrong_ends a b) (wrong_ends c d) = refl
  one (wrong_ends a b) (breaks_loop c d e f g h i) = absurd (b d)
  one (wrong_ends a b) (breaks_fork c d e f g h i) = absurd (b d)
  one (wrong_ends a b) (same_domain c d e f g h i) = absurd (b d)
  one (breaks_loop a b c d e f g) (cyclic {x} h) = absurd (a x h.0)
  one (breaks_loop a b c d e f g) (wrong_ends h i) = absurd (i b)
  one (breaks_loop a b c d e f g) (breaks_loop a' b' c' d' e' f' g') = ap (λ k. record { layer = 2; number = 8; place = k }) (first_one c c' e e' (fails_loop f g) (fails_loop f' g'))
  one (breaks_loop a b c d e f g) (breaks_fork a' b' c' d' e' f' g') = absurd (two_kinds s (first_one c c' e e' (fails_loop f g) (fails_fork f' g')) f f')
  one (breaks_loop a b c d e f g) (same_domain a' b' c' d' e' f' g') = absurd (keeps_loop (first_one c c' e e' (fails_loop f g) (fails_apart g')) f g f')
  one (breaks_fork a b c d e f g) (cyclic {x} h) = absurd (a x h.0)
  one (breaks_fork a b c d e f g) (wrong_ends h i) = absurd (i b)
  one (breaks_fork a b c d e f g) (breaks_loop a' b' c' d' e' f' g') = absurd (two_kinds s (first_one c' c e' e (fails_loop f' g') (fails_fork f g)) f' f)
  one (breaks_fork a b c d e f g) (breaks_fork a' b' c' d' e' f' g') = ap (λ k. record { layer = 2; number = 9; place = k }) (first_one c c' e e' (fails_fork f g) (fails_fork f' g'))
  one (breaks_fork a b c d e f g) (same_domain a' b' c' d' e' f' g') = absurd (keeps_fork (first_one c c' e e' (fails_fork f g) (fails_apart g')) f g f')
  one (same_domain a b c d e f g) (cyclic {x} h) = absurd (a x h.0)
  one (same_domain a b c d e f g) (wrong_ends h i) = absurd (i b)
  one (same_domain a b c d e f g) (breaks_loop a' b' c' d' e' f' g') = absurd (keeps_loop (first_one c' c e' e (fails_loop f' g') (fails_apart g)) f' g' f)
  one (same_domain a b c d e f g) (breaks_fork a' b' c' d' e' f' g') = absurd (keeps_fork (first_one c' c e' e (fails_fork f' g') (fails_apart g)) f' g' f)
  one (same_domain a b c d e f g) (same_domain a' b' c' d' e' f' g') = ap (λ k. record { layer = 2; number = 10; place = k }) (first_one c c' e e' (fails_apart g) (fails_apart g'))

  both : {f : Fault} → Sealed s → Unsealed s f → ⊥
  both S (cyclic {x} a) = S.acyclic x a.0
  both S (wrong_ends a b) = b S.whole_ends
  both S (breaks_loop {k} a b c d e f g) = g (S.loops k c d f)
  both S (breaks_fork {k} a b c d e f g) = g (S.forks k c d f)
  both S (same_domain {k} a b c d e f g) = g (S.distinct k c d)

pub sealing_law : SealingLaw
sealing_law s = record { never_both = λ S f. both S; one_fault = λ f g. one }
