-- Chains of parents, of blocks and of copies alike: what stands in one chain, where two chains split, and how far from 0 a number lies.
use Rattle.std.proofs.Common.{◌≡◌, ℕ, zero, suc, ◌<◌, ◌≤◌, ◌≢◌, ◌⊎◌, sym, refl, ap, ◌∙◌, inl, inr, arith}
use Rattle.model.specs.Forests.{Chain, stop, up, Falls, Split, Depth, at_zero, under}
use Rattle.std.proofs.lemmas.Bool.{cases_eq}
use Rattle.model.proofs.Cases.{cases, zero_or}

pub chain_join : {p : ℕ → ℕ} {i j k : ℕ} → Chain p i j → Chain p j k → Chain p i k
chain_join stop d = d
chain_join (up c) d = up (chain_join c d)

pub chain_eq : {p : ℕ → ℕ} {i j : ℕ} → i ≡ j → Chain p i j
chain_eq {p} {i} e = rw (← e) stop

-- what is strictly above a sibling is above
pub over : {p : ℕ → ℕ} {i s t d : ℕ} → Chain p i s → p s ≡ p t → Chain p (p t) d → Chain p i d
over {p} {i} {s} {t} {d} c e k = chain_join c (up (rw e k))

-- strictly above goes through the parent
pub chain_parent : {p : ℕ → ℕ} {i j : ℕ} → Chain p i j → (i ≡ j) ⊎ Chain p (p i) j
chain_parent stop = inl refl
chain_parent (up c) = inr c

-- of two in one chain, one stands in the chain of the other
pub comparable : {p : ℕ → ℕ} {i a b : ℕ} → Chain p i a → Chain p i b → Chain p a b ⊎ Chain p b a
comparable stop d = inl d
comparable (up c) stop = inr (up c)
comparable (up c) (up d) = comparable c d

-- the child of j on the way from i to j
pub chain_child : {p : ℕ → ℕ} {i j : ℕ} → Chain p i j → (i ≡ j) ⊎ ((k : ℕ) × Chain p i k × (p k ≡ j) × (k ≢ j))
chain_child stop = inl refl
chain_child {p} {i} {j} (up c) = go (cases_eq i j) (chain_child c)
  where
    go : (i ≡ j) ⊎ (i ≢ j) → (p i ≡ j) ⊎ ((k : ℕ) × Chain p (p i) k × (p k ≡ j) × (k ≢ j))
        → (i ≡ j) ⊎ ((k : ℕ) × Chain p i k × (p k ≡ j) × (k ≢ j))
    go (inl e) h = inl e
    go (inr f) (inl e) = inr (i, stop, e, f)
    go (inr f) (inr h) = inr (h.0, up h.1, h.2, h.3)

-- a split seen from lower down: from what has i, or j, in its chain
pub split_left : {p : ℕ → ℕ} {i i' j s t : ℕ} → Chain p i' i → Split p i j s t → Split p i' j s t
split_left c x = record {
  left = chain_join c x.left;
  right = x.right;
  left_pos = x.left_pos;
  right_pos = x.right_pos;
  same_parent = x.same_parent;
}

pub split_right : {p : ℕ → ℕ} {i j j' s t : ℕ} → Chain p j' j → Split p i j s t → Split p i j' s t
split_right c x = record {
  left = x.left;
  right = chain_join c x.right;
  left_pos = x.left_pos;
  right_pos = x.right_pos;
  same_parent = x.same_parent;
}

pub split_flip : {p : ℕ → ℕ} {i j s t : ℕ} → Split p i j s t → Split p j i t s
split_flip x = record {
  left = x.right;
  right = x.left;
  left_pos = x.right_pos;
  right_pos = x.left_pos;
  same_parent = sym x.same_parent;
}

module _ {p : ℕ → ℕ} (f : Falls p) where
  -- only 0 is its own parent
  pub child_pos : {k j : ℕ} → p k ≡ j → k ≢ j → 0 < k
  child_pos {k} {j} e d = cases (zero_or k) (λ z. absurd (d (z ∙ sym f.zero_parent ∙ ap p (sym z) ∙ e))) (λ h. h)

  parent_le : (i : ℕ) → p i ≤ i
  parent_le zero = omega (arith, f.zero_parent)
  parent_le (suc i) = let h : p (suc i) < suc i = f.falls (suc i) (omega arith) in omega arith

  pub chain_le : {i j : ℕ} → Chain p i j → j ≤ i
  chain_le stop = omega arith
  chain_le {i} (up c) = omega (arith, chain_le c, parent_le i)

  strictly_not : {i j : ℕ} → 0 < i → Chain p (p i) j → j < i
  strictly_not {i} h c = omega (arith, chain_le c, f.falls i h)

  pub chain_dec : (i j : ℕ) → Chain p i j ⊎ (¬ (Chain p i j))
  chain_dec i j = go i i (omega arith)
    where
      go : (m i : ℕ) → i ≤ m → Chain p i j ⊎ (¬ (Chain p i j))
      go m zero h = cases (zero_or j) (λ e. inl (chain_eq (sym e))) (λ z. inr (λ c. omega (arith, chain_le c)))
      go zero (suc i) h = absurd (omega arith)
      go (suc m) (suc i) h = cases (cases_eq (suc i) j)
          (λ e. inl (chain_eq e))
          (λ d. cases (go m (p (suc i)) (omega (arith, f.falls (suc i) (omega arith))))
          (λ c. inl (up c))
          (λ g. inr (λ c. cases (chain_parent c) d g)))

  pub above_zero : (i : ℕ) → Chain p i 0
  above_zero i = go i i (omega arith)
    where
      go : (m i : ℕ) → i ≤ m → Chain p i 0
      go m zero h = stop
      go zero (suc i) h = absurd (omega arith)
      go (suc m) (suc i) h = up (go m (p (suc i)) (omega (arith, f.falls (suc i) (omega arith))))

  -- no two children of one parent stand in one chain
  pub no_rung_twice : {i s t : ℕ} → Chain p i s → Chain p i t → 0 < s → 0 < t → p s ≡ p t → s ≡ t
  no_rung_twice {i} {s} {t} c d hs ht e = cases (comparable c d)
      (λ x. cases (chain_parent x) (λ y. y) (λ y. absurd (omega (arith, strictly_not ht (rw e at y)))))
      (λ x. cases (chain_parent x) (λ y. sym y) (λ y. absurd (omega (arith, strictly_not hs (rw (← e) at y)))))

  -- a chain does not split from itself
  pub split_self : {i s t : ℕ} → Split p i i s t → s ≡ t
  split_self x = no_rung_twice x.left x.right x.left_pos x.right_pos x.same_parent

  -- Two chains split at one place. Were the left child of one split strictly below that of another, the other two children would stand
  -- in one chain.
  one_left_le : {i j s t s' t' : ℕ} → Split p i j s t → s ≢ t → Split p i j s' t' → Chain p s' s → s' ≡ s
  one_left_le x d y c = cases (chain_parent c) (λ e. e) λ u.
      let both : Chain p _ _ = over y.right (sym y.same_parent) u in
      absurd (d (no_rung_twice both x.right x.left_pos x.right_pos x.same_parent))

  pub one_left : {i j s t s' t' : ℕ} → Split p i j s t → s ≢ t → Split p i j s' t' → s' ≢ t' → s ≡ s'
  one_left x d y d' = cases (comparable x.left y.left) (λ c. one_left_le y d' x c) (λ c. sym (one_left_le x d y c))

  pub one_right : {i j s t s' t' : ℕ} → Split p i j s t → s ≢ t → Split p i j s' t' → s' ≢ t' → t ≡ t'
  one_right x d y d' = one_left (split_flip x) (λ e. d (sym e)) (split_flip y) (λ e. d' (sym e))

  -- where two chains split, d in one of them stands at or below the split, or else in the other chain too
  pub above_split : {i j s t d : ℕ} → Split p i j s t → Chain p j d → Chain p d t ⊎ Chain p i d
  above_split x c = cases (comparable x.right c)
      (λ u. cases (chain_parent u) (λ e. inl (chain_eq (sym e))) (λ w. inr (over x.left x.same_parent w)))
      inl

  pub depth_of : (k : ℕ) → (d : ℕ) × Depth p k d
  depth_of k = go k k (omega arith)
    where
      go : (m k : ℕ) → k ≤ m → (d : ℕ) × Depth p k d
      go m zero h = (0, at_zero)
      go zero (suc k) h = absurd (omega arith)
      go (suc m) (suc k) h =
          let w = go m (p (suc k)) (omega (arith, f.falls (suc k) (omega arith))) in
          (suc w.0, under (omega arith) w.1)

  depth_zero : {k d : ℕ} → k ≡ 0 → Depth p k d → d ≡ 0
  depth_zero e at_zero = refl
  depth_zero e (under h d) = absurd (omega arith)

  depth_one : {k d e : ℕ} → Depth p k d → Depth p k e → d ≡ e
  depth_one at_zero b = sym (depth_zero refl b)
  depth_one (under h a) at_zero = absurd (omega arith)
  depth_one (under h a) (under h' b) = ap suc (depth_one a b)

  pub depth_le : {k j d e : ℕ} → Chain p k j → Depth p k d → Depth p j e → e ≤ d
  depth_le stop a b = omega (arith, depth_one a b)
  depth_le (up c) at_zero b = omega (arith, depth_zero (omega (arith, chain_le c, f.zero_parent)) b)
  depth_le (up c) (under h a) b = omega (arith, depth_le c a b)

  depth_up : {k a d e : ℕ} → Chain p k a → Depth p k d → Depth p a e → d ≤ e → Chain p a k
  depth_up stop x y l = stop
  depth_up (up c) at_zero y l = chain_eq (omega (arith, chain_le c, f.zero_parent))
  depth_up (up c) (under h x) y l = absurd (omega (arith, depth_le c x y))

  -- of two in one chain, the one that is not farther from 0 is above
  pub depth_chain : {i a k d e : ℕ} → Chain p i a → Chain p i k → Depth p k d → Depth p a e → d ≤ e → Chain p a k
  depth_chain ca ck dk da l = cases (comparable ca ck) (λ c. c) (λ c. depth_up c dk da l)
