-- `find` over a range of numbers, said of the lowest number of which P holds.
use Rattle.std.proofs.Common.{◌≡◌, ℕ, ◌<◌, ◌≤◌, Bool, true, false, List, Option, Some, None, MatchOption, Bor, arith}
use Rattle.std.specs.Bool.{⊤}
use Rattle.std.specs.Fn.{CalledAt}
use Rattle.std.specs.Iterator.{YieldsThen}
use Rattle.std.specs.List.{FoldsTo}
use Rattle.std.specs.declared.ops.Range.{Range}
use Rattle.std.proofs.iter.Yields.{nat_range_steps}
use Rattle.std.proofs.lemmas.Iterator.{first_from_Range}
use Rattle.formats.specs.Sections.{Lowest}
use denote.Param.Members.{Mut}

-- the closure answers yes where Yes holds and no where No does; a number of the range with Yes is one of which P holds, and no number
-- of which P holds lies below the range or has No
pub lowest_found : {F : Type 0} {g : Mut F (Bor ℕ × Unit {0}) Bool} (s u : Range ℕ) (f : F) (r : Option ℕ) (Yes No P : ℕ → Type 0) (Q : Type 0)
    → (xs : List ℕ) × (j : F) × YieldsThen nat_range_steps s xs r u × FoldsTo (λ p x q. CalledAt g p x false q) f xs j × MatchOption r ⊤ (λ x. (h : F) × CalledAt g j x true h)
    → ((x : ℕ) (q : F) → CalledAt g f x true q → Yes x) → ((x : ℕ) (q : F) → CalledAt g f x false q → (q ≡ f) × No x)
    → (((k : ℕ) → s.start ≤ k → k < s.end → No k) → Q) → ((k : ℕ) → s.start ≤ k → k < s.end → Yes k → P k) → ((k : ℕ) → P k → (s.start ≤ k) × (¬ (No k)))
    → MatchOption r Q (Lowest P)
lowest_found s u f r Yes No P Q d hit miss none some other = by r (first_from_Range s u f r Yes No d hit miss)
  where
    by : (o : Option ℕ) → MatchOption o ((k : ℕ) → s.start ≤ k → k < s.end → No k) (λ i. (s.start ≤ i) × (i < s.end) × Yes i × ((k : ℕ) → s.start ≤ k → k < i → No k)) → MatchOption o Q (Lowest P)
    by None h = none h
    by (Some i) h = (some i h.0 h.1 h.2, λ q l p. (other q p).1 (h.3 q (other q p).0 l))

-- the same over a range from 0, where the closure asks whether A fails
pub lowest_failing : {F : Type 0} {g : Mut F (Bor ℕ × Unit {0}) Bool} (s u : Range ℕ) (f : F) (r : Option ℕ) (A : ℕ → Type 0) {n : ℕ} → s.start ≡ 0 → s.end ≡ n
    → (xs : List ℕ) × (j : F) × YieldsThen nat_range_steps s xs r u × FoldsTo (λ p x q. CalledAt g p x false q) f xs j × MatchOption r ⊤ (λ x. (h : F) × CalledAt g j x true h)
    → ((x : ℕ) (q : F) → CalledAt g f x true q → ¬ (A x)) → ((x : ℕ) (q : F) → CalledAt g f x false q → (q ≡ f) × A x)
    → MatchOption r ((k : ℕ) → k < n → A k) (Lowest (λ k. (k < n) × (¬ (A k))))
lowest_failing s u f r A {n} start end d hit miss =
    lowest_found s u f r (λ k. ¬ (A k)) A (λ k. (k < n) × (¬ (A k))) ((k : ℕ) → k < n → A k) d hit miss
    (λ h k l. h k (omega arith) (omega arith)) (λ k z l y. (omega arith, y)) (λ k p. (omega arith, p.1))
