-- The refusals of a run for the nesting of its copies exclude each other.
use Rattle.std.proofs.Common.{◌≡◌, ℕ, ap}
use Rattle.model.specs.Specifications.{Spec}
use Rattle.model.specs.Runs.{Run}
use Rattle.formats.specs.declared.faults.Fault.{Fault}
use Rattle.formats.proofs.Decided.{lowest_one}
use Rattle.nesting.specs.Copies.{Misplaced, Follows, Lacking, Filled, Misnested, under_wrong, lacks_one}
use Rattle.nesting.specs.Deciding.{CopiesLaw}

module _ (s : Spec) (r : Run) where
  not_misplaced : {i : ℕ} → Follows s r → ¬ (Misplaced s r i)
  not_misplaced {i} f m = m.1 (f i m.0)

  not_lacking : {i : ℕ} → Filled s r → ¬ (Lacking s r i)
  not_lacking {i} f m =
      let k = m.1.0 in
      let l = m.1.1 in
      l.3 (f i k m.0 l.0 l.1 l.2)

  one : {f g : Fault} → Misnested s r f → Misnested s r g → f ≡ g
  one (under_wrong a) (under_wrong b) = ap (λ i. record { layer = 2; number = 11; place = i }) (lowest_one (Misplaced s r) a b)
  one (under_wrong a) (lacks_one b c) = absurd (not_misplaced b a.0)
  one (lacks_one a b) (under_wrong c) = absurd (not_misplaced a c.0)
  one (lacks_one a b) (lacks_one c d) = ap (λ i. record { layer = 2; number = 12; place = i }) (lowest_one (Lacking s r) b d)

  both : {f : Fault} → Follows s r → Filled s r → ¬ (Misnested s r f)
  both p q (under_wrong a) = not_misplaced p a.0
  both p q (lacks_one a b) = not_lacking q b.0

pub copies_law : CopiesLaw
copies_law s r = record { never_both = λ p q f. both s r p q; one_fault = λ f g. one s r }
