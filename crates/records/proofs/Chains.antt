-- What chains of iterators tell: over a range of the numbers in it, over a slice of its items.
use Rattle.std.proofs.Common.{◌≡◌, ℕ, ◌+◌, ◌-◌, ◌<◌, ◌≤◌, refl, subst, arith, Bool, true, false, T, ◌↔◌, List, [], ◌∷◌, length, get_or, MatchBool, MatchOption, Option, Bor}
use Rattle.std.specs.Bool.{⊤}
use Rattle.std.specs.Slice.Iter.{iter_rest}
use Rattle.std.specs.declared.slice.Iter.{Iter}
use Rattle.std.specs.Fn.{Called, CalledAt}
use Rattle.std.specs.Iterator.{YieldsThen}
use Rattle.std.specs.List.{FoldsTo, range_with_len, AllWithin, HoldsAt}
use Rattle.std.specs.declared.ops.Range.{Range}
use Rattle.std.proofs.iter.Yields.{fronts, nat_range_steps}
use Rattle.std.proofs.lemmas.Iterator.{first_from_Range, cases_from_all, cases_from_any, YieldsList-from_range, YieldsList-from_slice}
use Rattle.std.proofs.lemmas.List.FromFn.{length-range_with_len, get_or-range_with_len}
use denote.Param.Members.{Mut}

-- `all` over a range: true exactly where the closure's test holds of each number in it
pub all_in_range : {F : Type 0} {g : Mut F (ℕ × Unit {0}) Bool} (s u : Range ℕ) (f : F) (r : Bool) (P : ℕ → Type 0)
    → (xs : List ℕ) × (o : Option ℕ) × (j : F) × YieldsThen nat_range_steps s xs o u × FoldsTo (λ p x q. Called g p (x, tt) true q) f xs j × MatchOption o (r ≡ true) (λ x. (r ≡ false) × ((h : F) × Called g j (x, tt) false h))
    → ((x : ℕ) (q : F) → Called g f (x, tt) true q → (q ≡ f) × P x) → ((x : ℕ) (q : F) → Called g f (x, tt) false q → ¬ (P x))
    → T r ↔ ((k : ℕ) → s.start ≤ k → k < s.end → P k)
all_in_range s u f r P d hit miss = by r (cases_from_all u f r P (λ x. ¬ (P x)) d (YieldsList-from_range s.start s.end _ refl refl) hit miss)
  where
    all : List ℕ
    all = range_with_len s.start (s.end - s.start)

    long : length all ≡ s.end - s.start
    long = length-range_with_len s.start (s.end - s.start)

    at : (k : ℕ) → s.start ≤ k → k < s.end → get_or all (k - s.start) 0 ≡ k
    at k a b = omega (arith, get_or-range_with_len s.start (s.end - s.start) (k - s.start) 0 (omega arith))

    by : (b : Bool) → MatchBool b (AllWithin P all 0 (length all)) ((k : ℕ) × (k < length all) × HoldsAt (λ x. ¬ (P x)) all k) → T b ↔ ((k : ℕ) → s.start ≤ k → k < s.end → P k)
    by true h = (λ _ k a b. subst P (at k a b) (h (k - s.start) 0 (omega arith) (omega (arith, long))), λ _. tt)
    by false h = (λ w. absurd w, λ w. absurd (h.2 0 (w (get_or all h.0 0) (omega (arith, get_or-range_with_len s.start (s.end - s.start) h.0 0 (omega (arith, long, h.1)))) (omega (arith, long, h.1, get_or-range_with_len s.start (s.end - s.start) h.0 0 (omega (arith, long, h.1)))))))

-- `any` over a range: true exactly where the closure's test holds of some number in it
pub any_in_range : {F : Type 0} {g : Mut F (ℕ × Unit {0}) Bool} (s u : Range ℕ) (f : F) (r : Bool) (P : ℕ → Type 0)
    → (xs : List ℕ) × (o : Option ℕ) × (j : F) × YieldsThen nat_range_steps s xs o u × FoldsTo (λ p x q. Called g p (x, tt) false q) f xs j × MatchOption o (r ≡ false) (λ x. (r ≡ true) × ((h : F) × Called g j (x, tt) true h))
    → ((x : ℕ) (q : F) → Called g f (x, tt) true q → P x) → ((x : ℕ) (q : F) → Called g f (x, tt) false q → (q ≡ f) × (¬ (P x)))
    → T r ↔ ((k : ℕ) × (s.start ≤ k) × (k < s.end) × P k)
any_in_range s u f r P d hit miss = by r (cases_from_any u f r P (λ x. ¬ (P x)) d (YieldsList-from_range s.start s.end _ refl refl) hit miss)
  where
    all : List ℕ
    all = range_with_len s.start (s.end - s.start)

    long : length all ≡ s.end - s.start
    long = length-range_with_len s.start (s.end - s.start)

    at : (i : ℕ) → i < length all → get_or all i 0 ≡ s.start + i
    at i a = get_or-range_with_len s.start (s.end - s.start) i 0 (omega (arith, long))

    by : (b : Bool) → MatchBool b ((i : ℕ) × (i < length all) × HoldsAt P all i) (AllWithin (λ x. ¬ (P x)) all 0 (length all)) → T b ↔ ((k : ℕ) × (s.start ≤ k) × (k < s.end) × P k)
    by true h = (λ _. (s.start + h.0, omega arith, omega (arith, long, h.1), subst P (at h.0 h.1) (h.2 0)), λ _. tt)
    by false h = (λ w. absurd w, λ w. absurd (h (w.0 - s.start) 0 (omega arith) (omega (arith, long, w.1, w.2)) (subst P {x = w.0} {y = get_or all (w.0 - s.start) 0} (omega (arith, w.1, at (w.0 - s.start) (omega (arith, long, w.1, w.2)))) w.3)))

-- `find` over a range: the lowest number in it of which the closure's test holds
pub lowest_in_range : {F : Type 0} {g : Mut F (Bor ℕ × Unit {0}) Bool} (s u : Range ℕ) (f : F) (r : Option ℕ) (P : ℕ → Type 0)
    → (xs : List ℕ) × (j : F) × YieldsThen nat_range_steps s xs r u × FoldsTo (λ p x q. CalledAt g p x false q) f xs j × MatchOption r ⊤ (λ x. (h : F) × CalledAt g j x true h)
    → ((x : ℕ) (q : F) → CalledAt g f x true q → P x) → ((x : ℕ) (q : F) → CalledAt g f x false q → (q ≡ f) × (¬ (P x)))
    → MatchOption r ((k : ℕ) → s.start ≤ k → k < s.end → ¬ (P k)) (λ i. (s.start ≤ i) × (i < s.end) × P i × ((k : ℕ) → s.start ≤ k → k < i → ¬ (P k)))
lowest_in_range s u f r P d hit miss = first_from_Range s u f r P (λ x. ¬ (P x)) d hit miss

-- an item of a list that has a place i
first_of : {A : Type 0} (items : List A) (i : ℕ) → i < length items → A
first_of [] i h = absurd (omega arith)
first_of (x ∷ xs) i h = x

-- `all` over a slice: true exactly where the closure's test holds of each item
pub all_in_slice : {A F : Type 0} {g : Mut F (Bor A × Unit {0}) Bool} (s u : Iter A) (f : F) (r : Bool) (items : List A) (P : A → Type 0)
    → (xs : List (Bor A)) × (o : Option (Bor A)) × (j : F) × YieldsThen fronts s xs o u × FoldsTo (λ p x q. Called g p (x, tt) true q) f xs j × MatchOption o (r ≡ true) (λ x. (r ≡ false) × ((h : F) × Called g j (x, tt) false h))
    → iter_rest s ≡ items
    → ((x : Bor A) (q : F) → Called g f (x, tt) true q → (q ≡ f) × P x.now) → ((x : Bor A) (q : F) → Called g f (x, tt) false q → ¬ (P x.now))
    → T r ↔ ((i : ℕ) (d : A) → i < length items → P (get_or items i d))
all_in_slice {A} s u f r items P d e hit miss = by r (cases_from_all u f r P (λ x. ¬ (P x)) d (YieldsList-from_slice items e) hit miss)
  where
    by : (b : Bool) → MatchBool b (AllWithin P items 0 (length items)) ((i : ℕ) × (i < length items) × HoldsAt (λ x. ¬ (P x)) items i) → T b ↔ ((i : ℕ) (d : A) → i < length items → P (get_or items i d))
    by true h = (λ _ i d a. h i d (omega arith) a, λ _. tt)
    by false h = (λ w. absurd w, λ w. absurd (h.2 (first_of items h.0 h.1) (w h.0 (first_of items h.0 h.1) h.1)))

-- `any` over a slice: true exactly where the closure's test holds of some item
pub any_in_slice : {A F : Type 0} {g : Mut F (Bor A × Unit {0}) Bool} (s u : Iter A) (f : F) (r : Bool) (items : List A) (P : A → Type 0)
    → (xs : List (Bor A)) × (o : Option (Bor A)) × (j : F) × YieldsThen fronts s xs o u × FoldsTo (λ p x q. Called g p (x, tt) false q) f xs j × MatchOption o (r ≡ false) (λ x. (r ≡ true) × ((h : F) × Called g j (x, tt) true h))
    → iter_rest s ≡ items
    → ((x : Bor A) (q : F) → Called g f (x, tt) true q → P x.now) → ((x : Bor A) (q : F) → Called g f (x, tt) false q → (q ≡ f) × (¬ (P x.now)))
    → (T r → (i : ℕ) × (i < length items) × HoldsAt P items i) × ((i : ℕ) (d : A) → i < length items → P (get_or items i d) → T r)
any_in_slice {A} s u f r items P d e hit miss = by r (cases_from_any u f r P (λ x. ¬ (P x)) d (YieldsList-from_slice items e) hit miss)
  where
    by : (b : Bool) → MatchBool b ((i : ℕ) × (i < length items) × HoldsAt P items i) (AllWithin (λ x. ¬ (P x)) items 0 (length items)) → (T b → (i : ℕ) × (i < length items) × HoldsAt P items i) × ((i : ℕ) (d : A) → i < length items → P (get_or items i d) → T b)
    by true h = (λ _. h, λ i d a w. tt)
    by false h = (λ w. absurd w, λ i d a w. absurd (h i d (omega arith) a w))
