-- Counting: how many of the numbers below n have a property. Positions, the places of a list and the walks that end all rest on it.
use Rattle.std.proofs.Common.{◌≡◌, ℕ, zero, suc, ◌<◌, ◌≤◌, Bool, true, false, T, ◌≢◌, ◌⊎◌, sym, ap, ◌∙◌, subst, inl, inr, arith}
use Rattle.model.specs.Orders.{Count, none, hit, miss}
use Rattle.std.proofs.lemmas.Bool.{cases_eq}
use Rattle.model.proofs.Cases.{cases}

-- what can be told apart can be counted
pub count_some : (P : ℕ → Type 0) → ((j : ℕ) → P j ⊎ (¬ (P j))) → (n : ℕ) → (q : ℕ) × Count P n q
count_some P d zero = (0, none)
count_some P d (suc n) = let w = count_some P d n in cases (d n) (λ h. (suc w.0, hit h w.1)) (λ h. (w.0, miss h w.1))

pub count_all : (n : ℕ) → Count (λ j. Unit {0}) n n
count_all zero = none
count_all (suc n) = hit tt (count_all n)

count_empty : {P : ℕ → Type 0} (n : ℕ) → ((j : ℕ) → ¬ (P j)) → Count P n 0
count_empty zero g = none
count_empty (suc n) g = miss (g n) (count_empty n g)

-- where P gives Q, there are no more P than Q
count_le : {P Q : ℕ → Type 0} {n q q' : ℕ} → ((j : ℕ) → P j → Q j) → Count P n q → Count Q n q' → q ≤ q'
count_le f none none = omega arith
count_le f (hit a c) (hit b d) = omega (arith, count_le f c d)
count_le {n = suc n} f (hit a c) (miss b d) = absurd (b (f n a))
count_le f (miss a c) (hit b d) = omega (arith, count_le f c d)
count_le f (miss a c) (miss b d) = count_le f c d

pub count_one : {P : ℕ → Type 0} {n q q' : ℕ} → Count P n q → Count P n q' → q ≡ q'
count_one a b = omega (arith, count_le (λ j x. x) a b, count_le (λ j x. x) b a)

-- where P gives Q and some x is Q and not P, there are fewer P than Q
pub count_lt : {P Q : ℕ → Type 0} {n q q' : ℕ} (x : ℕ) → ((j : ℕ) → P j → Q j) → x < n → (¬ (P x)) → Q x → Count P n q → Count Q n q' → q < q'
count_lt x f l g h none none = absurd (omega arith)
count_lt {n = suc n} x f l g h (hit a c) (hit b d) = cases (cases_eq x n)
    (λ e. absurd (g (rw (← e) at a)))
    (λ e. omega (arith, count_lt x f (omega arith) g h c d))
count_lt {n = suc n} x f l g h (hit a c) (miss b d) = absurd (b (f n a))
count_lt x f l g h (miss a c) (hit b d) = omega (arith, count_le f c d)
count_lt {n = suc n} x f l g h (miss a c) (miss b d) = cases (cases_eq x n)
    (λ e. absurd (b (rw e at h)))
    (λ e. count_lt x f (omega arith) g h c d)

-- properties that agree below n have one count
pub count_iff : {P Q : ℕ → Type 0} {n q : ℕ} → ((j : ℕ) → j < n → P j → Q j) → ((j : ℕ) → j < n → Q j → P j) → Count P n q → Count Q n q
count_iff f g none = none
count_iff {n = suc n} f g (hit p c) = hit (f n (omega arith) p) (count_iff (λ j l. f j (omega arith)) (λ j l. g j (omega arith)) c)
count_iff {n = suc n} f g (miss p c) = miss (λ x. p (g n (omega arith) x)) (count_iff (λ j l. f j (omega arith)) (λ j l. g j (omega arith)) c)

-- one number more
count_add : {P : ℕ → Type 0} {n q : ℕ} (x : ℕ) → x < n → (¬ (P x)) → Count P n q → Count (λ j. (j ≡ x) ⊎ P j) n (suc q)
count_add x l g none = absurd (omega arith)
count_add {P} {n = suc n} x l g (hit p c) = cases (cases_eq n x)
    (λ e. absurd (g (subst P e p)))
    (λ d. hit (inr p) (count_add x (omega arith) g c))
count_add {P} {n = suc n} x l g (miss p c) = cases (cases_eq n x)
    (λ e. hit (inl e) (count_iff (λ j l a. inr a) (λ j l a. cases a (λ e'. absurd (omega arith)) (λ b. b)) c))
    (λ d. miss (λ a. cases a d p) (count_add x (omega arith) g c))

-- q places with different numbers below n: so many numbers stand at a place
pub count_places : (f : ℕ → ℕ) (n q : ℕ) → ((p : ℕ) → p < q → f p < n) → ((p p' : ℕ) → p < p' → p' < q → f p ≢ f p')
    → Count (λ j. (p : ℕ) × (p < q) × (f p ≡ j)) n q
count_places f n zero r d = count_empty n (λ j h. omega (arith, h.1))
count_places f n (suc q) r d = count_iff
    (λ j l a. cases a (λ e. (q, omega arith, sym e)) (λ h. (h.0, omega (arith, h.1), h.2)))
    (λ j l h. cases (cases_eq h.0 q) (λ e. inl (sym h.2 ∙ ap f e)) (λ g. inr (h.0, omega (arith, h.1), h.2)))
    (count_add (f q) (r q (omega arith)) (λ h. d h.0 q h.1 (omega arith) h.2)
    (count_places f n q (λ p l. r p (omega arith)) (λ p p' l l'. d p p' l (omega arith))))

-- counting by a test, which computes

abbrev tick : Bool → ℕ → ℕ
tick true m = suc m
tick false m = m

abbrev pub count : ℕ → (ℕ → Bool) → ℕ
count zero f = 0
count (suc n) f = tick (f n) (count n f)

count_tick : {P : ℕ → Type 0} {n q : ℕ} (b : Bool) → (T b → P n) → (P n → T b) → Count P n q → Count P (suc n) (tick b q)
count_tick true f g c = hit (f tt) c
count_tick false f g c = miss (λ p. g p) c

pub count_is : (n : ℕ) (f : ℕ → Bool) → Count (λ j. T (f j)) n (count n f)
count_is zero f = none
count_is (suc n) f = count_tick (f n) (λ t. t) (λ t. t) (count_is n f)
