-- Tests that compute, for statements with bounds: how the worked example is checked.
use Rattle.std.proofs.Common.{◌≡◌, ℕ, zero, suc, ◌<◌, ◌≤◌, Bool, true, false, not, ◌&&◌, ◌||◌, T, eqb, leb, ◌⊎◌, subst, inl, inr, arith, le→leb, eqb→eq, leb→le, T_not}
use lib.Dec.{not_T, eqb_refl}
use Rattle.model.specs.Forests.{Chain, up, Falls}
use Rattle.std.proofs.lemmas.Bool.{cases_eq}
use Rattle.model.proofs.Cases.{cases}
use Rattle.model.proofs.Chains.{chain_le, chain_eq, chain_parent}

pub eq→eqb : (a b : ℕ) → a ≡ b → T (eqb a b)
eq→eqb a b e = subst (λ x. T (eqb a x)) e (eqb_refl a)

-- a test that says whether P holds
pub record Test (P : Type 0) : Type 0 where
  pub bit : Bool
  pub so : T bit → P
  pub thus : P → T bit

pub by_test : {P : Type 0} (t : Test P) → T t.bit → P
by_test t h = t.so h

pub and_so : (a b : Bool) → T (a && b) → T a × T b
and_so true b h = (tt, h)
and_so false b h = elim h [ ]

pub and_thus : (a b : Bool) → T a → T b → T (a && b)
and_thus true b h k = k
and_thus false b h k = elim h [ ]

pub or_so : (a b : Bool) → T (a || b) → T a ⊎ T b
or_so true b h = inl tt
or_so false b h = inr h

pub or_thus : (a b : Bool) → T a ⊎ T b → T (a || b)
or_thus true b h = tt
or_thus false b (inl h) = elim h [ ]
or_thus false b (inr h) = h

pub bool_or : (a : Bool) → T a ⊎ (T a → ⊥)
bool_or true = inl tt
bool_or false = inr (λ h. h)

abbrev pub test_eq : (a b : ℕ) → Test (a ≡ b)
test_eq a b = record { bit = eqb a b; so = eqb→eq a b; thus = eq→eqb a b }

abbrev pub test_le : (a b : ℕ) → Test (a ≤ b)
test_le a b = record { bit = leb a b; so = leb→le a b; thus = le→leb a b }

abbrev pub test_lt : (a b : ℕ) → Test (a < b)
test_lt a b = record { bit = leb (suc a) b; so = leb→le (suc a) b; thus = le→leb (suc a) b }

abbrev pub test_bool : (b : Bool) → Test (T b)
test_bool b = record { bit = b; so = λ h. h; thus = λ h. h }

abbrev pub test_and : {P Q : Type 0} → Test P → Test Q → Test (P × Q)
test_and p q = record {
  bit = p.bit && q.bit;
  so = λ h. (p.so (and_so p.bit q.bit h).0, q.so (and_so p.bit q.bit h).1);
  thus = λ h. and_thus p.bit q.bit (p.thus h.0) (q.thus h.1);
}

abbrev pub test_or : {P Q : Type 0} → Test P → Test Q → Test (P ⊎ Q)
test_or p q = record {
  bit = p.bit || q.bit;
  so = λ h. cases (or_so p.bit q.bit h) (λ x. inl (p.so x)) (λ x. inr (q.so x));
  thus = λ h. or_thus p.bit q.bit (cases h (λ x. inl (p.thus x)) (λ x. inr (q.thus x)));
}

abbrev pub test_not : {P : Type 0} → Test P → Test (¬ P)
test_not p = record { bit = not p.bit; so = λ h x. T_not p.bit h (p.thus x); thus = λ h. not_T p.bit (λ x. h (p.so x)) }

abbrev pub test_imp : {P Q : Type 0} → Test P → Test Q → Test (P → Q)
test_imp p q = record {
  bit = not p.bit || q.bit;
  so = λ h x. cases (or_so (not p.bit) q.bit h) (λ y. absurd (T_not p.bit y (p.thus x))) q.so;
  thus = λ h. or_thus (not p.bit) q.bit (cases (bool_or p.bit) (λ x. inr (q.thus (h (p.so x)))) (λ x. inl (not_T p.bit x)));
}

abbrev pub test_as : {P Q : Type 0} → (P → Q) → (Q → P) → Test P → Test Q
test_as f g p = record { bit = p.bit; so = λ h. f (p.so h); thus = λ h. p.thus (g h) }

abbrev pub all : ℕ → (ℕ → Bool) → Bool
all zero f = true
all (suc n) f = f n && all n f

abbrev pub any : ℕ → (ℕ → Bool) → Bool
any zero f = false
any (suc n) f = f n || any n f

pub all_so : (n : ℕ) (f : ℕ → Bool) → T (all n f) → (x : ℕ) → x < n → T (f x)
all_so zero f h x l = absurd (omega arith)
all_so (suc n) f h x l = let w = and_so (f n) (all n f) h in
    cases (cases_eq x n) (λ e. rw e w.0) (λ d. all_so n f w.1 x (omega arith))

pub all_thus : (n : ℕ) (f : ℕ → Bool) → ((x : ℕ) → x < n → T (f x)) → T (all n f)
all_thus zero f h = tt
all_thus (suc n) f h = and_thus (f n) (all n f) (h n (omega arith)) (all_thus n f (λ x l. h x (omega arith)))

pub any_so : (n : ℕ) (f : ℕ → Bool) → T (any n f) → (x : ℕ) × (x < n) × T (f x)
any_so zero f h = elim h [ ]
any_so (suc n) f h = cases (or_so (f n) (any n f) h) (λ x. (n, omega arith, x)) (λ y. let w = any_so n f y in (w.0, omega (arith, w.1), w.2))

pub any_thus : (n : ℕ) (f : ℕ → Bool) (x : ℕ) → x < n → T (f x) → T (any n f)
any_thus zero f x l h = absurd (omega arith)
any_thus (suc n) f x l h = or_thus (f n) (any n f) (cases (cases_eq x n) (λ e. inl (rw (← e) h)) (λ d. inr (any_thus n f x (omega arith) h)))

abbrev pub test_all : (n : ℕ) {P : ℕ → Type 0} → ((x : ℕ) → Test (P x)) → Test ((x : ℕ) → x < n → P x)
test_all n t = record {
  bit = all n (λ x. (t x).bit);
  so = λ h x l. (t x).so (all_so n (λ x. (t x).bit) h x l);
  thus = λ h. all_thus n (λ x. (t x).bit) (λ x l. (t x).thus (h x l));
}

abbrev pub test_any : (n : ℕ) {P : ℕ → Type 0} → ((x : ℕ) → Test (P x)) → Test ((x : ℕ) × (x < n) × P x)
test_any n t = record {
  bit = any n (λ x. (t x).bit);
  so = λ h. let w = any_so n (λ x. (t x).bit) h in (w.0, w.1, (t w.0).so w.2);
  thus = λ h. any_thus n (λ x. (t x).bit) h.0 h.1 ((t h.0).thus h.2);
}

-- a walk of at most k parents from i meets j
abbrev pub chainb : (ℕ → ℕ) → ℕ → ℕ → ℕ → Bool
chainb p zero i j = eqb i j
chainb p (suc k) i j = eqb i j || chainb p k (p i) j

module _ {p : ℕ → ℕ} (f : Falls p) where
  pub chainb_so : (k i j : ℕ) → T (chainb p k i j) → Chain p i j
  chainb_so zero i j h = chain_eq (eqb→eq i j h)
  chainb_so (suc k) i j h = cases (or_so (eqb i j) (chainb p k (p i) j) h) (λ e. chain_eq (eqb→eq i j e)) (λ c. up (chainb_so k (p i) j c))

  pub chainb_thus : (k i j : ℕ) → i ≤ k → Chain p i j → T (chainb p k i j)
  chainb_thus zero i j l c = eq→eqb i j (omega (arith, chain_le f c))
  chainb_thus (suc k) i j l c = or_thus (eqb i j) (chainb p k (p i) j)
      (cases (chain_parent c) (λ e. inl (eq→eqb i j e)) (λ d. inr (chainb_thus k (p i) j (fall i l) d)))
    where
      fall : (i : ℕ) → i ≤ suc k → p i ≤ k
      fall zero l = omega (arith, f.zero_parent)
      fall (suc i) l = omega (arith, f.falls (suc i) (omega arith))

  abbrev pub test_chain : (i j : ℕ) → Test (Chain p i j)
  test_chain i j = record { bit = chainb p i i j; so = chainb_so i i j; thus = chainb_thus i i j (omega arith) }
