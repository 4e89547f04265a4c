-- All checks passed is sealed; and the trivial specification is.
use Rattle.std.proofs.Common.{◌≡◌, ℕ, zero, suc, ◌+◌, ◌<◌, ◌≤◌, [], ◌∷◌, Ok, Err, Result, refl, MatchResult, subst, arith, below_more}
use Rattle.model.specs.Specifications.{Spec, InRanges, Acyclic, HasWholeEnds, Sealed}
use Rattle.formats.specs.Of.{spec_of, trivial}
use Rattle.formats.specs.Specifications.{no_vertex, no_nest, no_ends}
use Rattle.records.specs.Tables.{kept}
use Rattle.formats.specs.declared.specification.Specification.{Specification}
use Rattle.rules.specs.Faults.{nesting_fault}
use Rattle.rules.specs.Parts.{parts_spec}
use Rattle.rules.specs.Unsealed.{Passes, PassedBelow, Unsealed}
use Rattle.rules.specs.declared.faults.NestingFault.{NestingFault}
use Rattle.rules.specs.declared.parts.Parts.{Parts}
use Rattle.rules.proofs.PartRanges.{parts_ranges}
use Rattle.rules.proofs.Ranges.{ranges_of}

pub sealed_of : (s : Spec) (k : ℕ) → InRanges s → Acyclic s → HasWholeEnds s → PassedBelow s k → s.b ≤ k → Sealed s
sealed_of s k r a w p h = record {
  ranges = r;
  acyclic = a;
  whole_ends = w;
  loops = λ j z l e. (p j z (omega (arith, h))).keeps.as_loop e;
  forks = λ j z l e. (p j z (omega (arith, h))).keeps.as_fork e;
  distinct = λ j z l. (p j z (omega (arith, h))).apart;
}

pub passed_more : (s : Spec) (k : ℕ) → PassedBelow s k → Passes s k → PassedBelow s (k + 1)
passed_more s k p h j z l = below_more (λ i. 0 < i → Passes s i) k (λ i a b. p i b a) (λ b. h) j l z

-- tables without a cycle, of which the other checks tell
pub sealed_or : (p : Parts) {s : Spec} → s ≡ parts_spec p → Acyclic (parts_spec p) → (r : Result Unit NestingFault)
    → MatchResult r (λ _. HasWholeEnds s × PassedBelow s s.b) (λ f. Acyclic s → Unsealed s (nesting_fault f))
    → MatchResult r (λ _. Sealed (parts_spec p)) (λ f. Unsealed (parts_spec p) (nesting_fault f))
sealed_or p e a r h = by r (subst (λ (t : Spec). MatchResult r (λ _. HasWholeEnds t × PassedBelow t t.b) (λ f. Acyclic t → Unsealed t (nesting_fault f))) e h)
  where
    by : (r : Result Unit NestingFault) → MatchResult r (λ _. HasWholeEnds (parts_spec p) × PassedBelow (parts_spec p) (parts_spec p).b) (λ f. Acyclic (parts_spec p) → Unsealed (parts_spec p) (nesting_fault f))
        → MatchResult r (λ _. Sealed (parts_spec p)) (λ f. Unsealed (parts_spec p) (nesting_fault f))
    by (Ok _) h = sealed_of (parts_spec p) (parts_spec p).b (parts_ranges p) a h.0 h.1 (omega arith)
    by (Err f) h = h a

pub trivial_sealed : Sealed trivial
trivial_sealed = sealed_of trivial 1
    (ranges_of [] (no_vertex ∷ []) (no_nest ∷ []) (no_ends ∷ []) (omega arith, omega arith, refl) (λ i h. absurd (omega arith)) (λ x h. one x h) (refl, refl) (λ k z h. absurd (omega arith)) (λ k h. ends k h))
    (λ x p. elim p.2 [ ])
    (record { only_source = λ x h. ((λ _. omega arith), λ _ y e. elim e [ ]); only_sink = λ x h. ((λ _. omega arith), λ _ y e. elim e [ ]) })
    (λ j z l. absurd (omega arith))
    (omega arith)
  where
    one : (x : ℕ) → x < 1 → trivial.home x < 1
    one zero h = omega arith
    one (suc x) h = absurd (omega arith)

    ends : (k : ℕ) → k < 1 → (trivial.source k < 1) × (trivial.sink k < 1)
    ends zero h = (omega arith, omega arith)
    ends (suc k) h = absurd (omega arith)

pub trivial_of : (s : Specification) → kept s.edges ≡ [] → kept s.vertices ≡ no_vertex ∷ [] → kept s.nests ≡ no_nest ∷ [] → kept s.ends ≡ no_ends ∷ [] → spec_of s ≡ trivial
trivial_of s e v n x = rw (e, v, n, x)
