-- Each order is a strict total order of the copies, and positions, which count the copies before, go as the order.
use Rattle.std.proofs.Common.{◌≡◌, ℕ, zero, suc, ◌+◌, ◌<◌, ◌≤◌, Bool, true, false, ◌≢◌, ◌⊎◌, sym, refl, ap, ◌∙◌, subst, inl, inr, arith}
use Rattle.model.specs.Forests.{Chain, stop, up, Falls, Split}
use Rattle.model.specs.Specifications.{Spec}
use Rattle.model.specs.Runs.{Run}
use Rattle.model.specs.Orders.{Turned, Sooner, Before, Position}
use Rattle.model.proofs.Counts.{count_some, count_all, count_one, count_lt}
use Rattle.std.proofs.lemmas.Bool.{cases_eq, cases_lt}
use Rattle.model.proofs.Cases.{cases}
use Rattle.model.proofs.Chains.{over, chain_le, chain_eq, chain_parent, chain_child, chain_join, child_pos, comparable, split_self, split_flip, split_right}

-- within a group

turned_never : (b : Bool) (s : ℕ) → Turned b s s → ⊥
turned_never true s h = omega arith
turned_never false s h = omega arith

turned_join : (b : Bool) (s t u : ℕ) → Turned b s t → Turned b t u → Turned b s u
turned_join true s t u h k = omega arith
turned_join false s t u h k = omega arith

turned_total : (b : Bool) (s t : ℕ) → s ≢ t → Turned b s t ⊎ Turned b t s
turned_total true s t d = cases (cases_lt s t) inr (λ h. inl (omega arith))
turned_total false s t d = cases (cases_lt s t) inl (λ h. inr (omega arith))

-- how two chains meet
module _ (p : ℕ → ℕ) where
  abbrev Meet : ℕ → ℕ → Type 0
  Meet i j = Chain p j i ⊎ (Chain p i j ⊎ ((s t : ℕ) × Split p i j s t × (s ≢ t)))

module _ {p : ℕ → ℕ} (f : Falls p) where
  meet_flip : {i j : ℕ} → Meet p i j → Meet p j i
  meet_flip (inl c) = inr (inl c)
  meet_flip (inr (inl c)) = inl c
  meet_flip (inr (inr x)) = inr (inr (x.1, x.0, split_flip x.2, λ e. x.3 (sym e)))

  meet_up : {i j : ℕ} → i < j → Meet p i (p j) → Meet p i j
  meet_up h (inl c) = inl (up c)
  meet_up {i} {j} h (inr (inl c)) = cases (chain_child c)
      (λ e. inl (up (chain_eq (sym e))))
      (λ k.
      let z : 0 < k.0 = child_pos f k.2 k.3 in
      let x : Split p i j k.0 j = record { left = k.1; right = stop; left_pos = z; right_pos = omega arith; same_parent = k.2 } in
      inr (inr (k.0, j, x, λ e. omega (arith, e, chain_le f k.1))))
  meet_up h (inr (inr x)) = inr (inr (x.0, x.1, split_right (up stop) x.2, x.3))

  meet_go : (m i j : ℕ) → i + j ≤ m → Meet p i j
  meet_go zero i j h = inl (chain_eq (omega arith))
  meet_go (suc m) i j h = cases (cases_eq i j) (λ e. inl (chain_eq (sym e))) λ d. cases (cases_lt i j)
      (λ l. meet_up l (meet_go m i (p j) (omega (arith, f.falls j (omega arith)))))
      (λ l. let l' : j < i = omega arith in meet_flip (meet_up l' (meet_flip (meet_go m (p i) j (omega (arith, f.falls i (omega arith)))))))

  -- two copies: one above the other, or under two children of one copy
  pub meet : (i j : ℕ) → Meet p i j
  meet i j = meet_go (i + j) i j (omega arith)

module _ (sp : Spec) (r : Run) (o : ℕ → Bool) where
  -- among the children of one copy

  sooner_never : {s t : ℕ} → s ≡ t → Sooner sp r o s t → ⊥
  sooner_never e (inl h) = omega (arith, ap r.block e)
  sooner_never {s} {t} e (inr h) = turned_never (o (sp.kind (r.block s))) s (subst (λ x. Turned (o (sp.kind (r.block s))) s x) (sym e) h.1)

  turned_move : {a b : ℕ} (s t : ℕ) → a ≡ b → Turned (o (sp.kind a)) s t → Turned (o (sp.kind b)) s t
  turned_move s t e h = subst (λ x. Turned (o (sp.kind x)) s t) e h

  pub sooner_join : {s t u : ℕ} → Sooner sp r o s t → Sooner sp r o t u → Sooner sp r o s u
  sooner_join (inl h) (inl k) = inl (omega arith)
  sooner_join (inl h) (inr k) = inl (omega (arith, k.0))
  sooner_join (inr h) (inl k) = inl (omega (arith, h.0))
  sooner_join {s} {t} {u} (inr h) (inr k) =
      inr (h.0 ∙ k.0, turned_join (o (sp.kind (r.block s))) s t u h.1 (turned_move t u (sym h.0) k.1))

  pub sooner_total : {s t : ℕ} → s ≢ t → Sooner sp r o s t ⊎ Sooner sp r o t s
  sooner_total {s} {t} d = cases (cases_eq (r.block s) (r.block t))
      (λ e. cases (turned_total (o (sp.kind (r.block s))) s t d)
      (λ h. inl (inr (e, h)))
      (λ h. inr (inr (sym e, turned_move t s e h))))
      (λ g. cases (cases_lt (r.block s) (r.block t)) (λ h. inl (inl h)) (λ h. inr (inl (omega arith))))

  -- among all copies

  pub branch : {i j s t : ℕ} → Split r.parent i j s t → Sooner sp r o s t → Before sp r o i j
  branch {i} {j} {s} {t} x h = inr (record { bs = s; bt = t; bsplit = x; sooner = h })

  module _ (f : Falls r.parent) where
    pub before_never : (i : ℕ) → ¬ (Before sp r o i i)
    before_never i (inl h) = h.1 refl
    before_never i (inr b) = sooner_never (split_self f b.bsplit) b.sooner

    pub before_total : (i j : ℕ) → (i ≡ j) ⊎ (Before sp r o i j ⊎ Before sp r o j i)
    before_total i j = cases (cases_eq i j) inl λ d. inr (cases (meet f i j)
        (λ c. inl (inl (c, d)))
        (λ x. cases x
        (λ c. inr (inl (c, λ e. d (sym e))))
        (λ y. cases (sooner_total y.3)
        (λ h. inl (branch y.2 h))
        (λ h. inr (branch (split_flip y.2) h)))))

    -- two splits that meet in the middle make one
    at_split : {i j k s t s' t' : ℕ} → Split r.parent i j s t → Split r.parent j k s' t' → t ≡ s' → Split r.parent i k s t'
    at_split x y e = record {
      left = x.left;
      right = y.right;
      left_pos = x.left_pos;
      right_pos = y.right_pos;
      same_parent = x.same_parent ∙ ap r.parent e ∙ y.same_parent;
    }

    -- where both are splits, the upper of the two in the chain of the middle copy decides; where they are level, they join
    pub before_join : (i j k : ℕ) → Before sp r o i j → Before sp r o j k → Before sp r o i k
    before_join i j k (inl a) (inl b) = inl (chain_join b.0 a.0, λ e. a.1 (omega (arith, e, chain_le f a.0, chain_le f b.0)))
    before_join i j k (inl a) (inr b) = cases (comparable a.0 x.left) down λ c. cases (chain_parent c)
        (λ e. down (chain_eq (sym e)))
        (λ c'. inl (over x.right (sym x.same_parent) c', λ e. omega (arith, e, chain_le f c', below)))
      where
        x : Split r.parent j k b.bs b.bt
        x = b.bsplit

        down : Chain r.parent i b.bs → Before sp r o i k
        down c = branch (record {
          left = c;
          right = x.right;
          left_pos = x.left_pos;
          right_pos = x.right_pos;
          same_parent = x.same_parent;
        }) b.sooner

        below : r.parent b.bs < k
        below = omega (arith, x.same_parent, f.falls b.bt x.right_pos, chain_le f x.right)
    before_join i j k (inr a) (inl b) = branch (split_right b.0 a.bsplit) a.sooner
    before_join i j k (inr a) (inr b) = cases (comparable x.right y.left)
        (λ c. cases (chain_parent c) level (λ c'. branch (left_over c') b.sooner))
        (λ c. cases (chain_parent c) (λ e. level (sym e)) (λ c'. branch (right_over c') a.sooner))
      where
        x : Split r.parent i j a.bs a.bt
        x = a.bsplit

        y : Split r.parent j k b.bs b.bt
        y = b.bsplit

        level : a.bt ≡ b.bs → Before sp r o i k
        level e = branch (at_split x y e) (sooner_join a.sooner (subst (λ z. Sooner sp r o z b.bt) (sym e) b.sooner))

        left_over : Chain r.parent (r.parent a.bt) b.bs → Split r.parent i k b.bs b.bt
        left_over c = record {
          left = over x.left x.same_parent c;
          right = y.right;
          left_pos = y.left_pos;
          right_pos = y.right_pos;
          same_parent = y.same_parent;
        }

        right_over : Chain r.parent (r.parent b.bs) a.bt → Split r.parent i k a.bs a.bt
        right_over c = record {
          left = x.left;
          right = over y.right (sym y.same_parent) c;
          left_pos = x.left_pos;
          right_pos = x.right_pos;
          same_parent = x.same_parent;
        }

module _ (sp : Spec) (r : Run) (o : ℕ → Bool) (f : Falls r.parent) where
  before_or : (i j : ℕ) → Before sp r o j i ⊎ (¬ (Before sp r o j i))
  before_or i j = cases (before_total sp r o f i j)
      (λ e. inr (λ b. before_never sp r o f i (subst (λ x. Before sp r o x i) (sym e) b)))
      (λ x. cases x (λ b. inr (λ b'. before_never sp r o f i (before_join sp r o f i j i b b'))) inl)

  pub position_of : (i : ℕ) → i < r.c → (q : ℕ) × (q < r.c) × Position sp r o i q
  position_of i h =
      let w = count_some (λ j. Before sp r o j i) (before_or i) r.c in
      (w.0, count_lt i (λ j b. tt) h (before_never sp r o f i) tt w.1 (count_all r.c), w.1)

  pub position_one : (i q q' : ℕ) → Position sp r o i q → Position sp r o i q' → q ≡ q'
  position_one i q q' a b = count_one a b

  pub position_less : (i j q q' : ℕ) → i < r.c → Position sp r o i q → Position sp r o j q' → Before sp r o i j → q < q'
  position_less i j q q' h a b x = count_lt i (λ k y. before_join sp r o f k i j y x) h (before_never sp r o f i) x a b

  pub position_same : (i j q q' : ℕ) → i ≡ j → Position sp r o i q → Position sp r o j q' → q ≡ q'
  position_same i j q q' e a b = position_one j q q' (subst (λ x. Position sp r o x q) e a) b

  pub position_back : (i j q q' : ℕ) → i < r.c → j < r.c → Position sp r o i q → Position sp r o j q' → q < q' → Before sp r o i j
  position_back i j q q' hi hj a b l = cases (before_total sp r o f i j)
      (λ e. absurd (omega (arith, position_same i j q q' e a b)))
      (λ x. cases x (λ y. y) (λ y. absurd (omega (arith, position_less j i q' q hj b a y))))

  pub position_copy : (i j q : ℕ) → i < r.c → j < r.c → Position sp r o i q → Position sp r o j q → i ≡ j
  position_copy i j q hi hj a b = cases (before_total sp r o f i j) (λ e. e) λ x. cases x
      (λ y. absurd (omega (arith, position_less i j q q hi a b y)))
      (λ y. absurd (omega (arith, position_less j i q q hj b a y)))
