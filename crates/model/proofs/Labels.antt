-- What labels tell: the three positions show how two contexts lie to one another, and so the question rule says yes exactly when a path
-- of the run leads from one step to the other.
use Rattle.std.proofs.Common.{◌≡◌, ℕ, ◌<◌, Bool, ◌≢◌, sym, refl, ap, ◌∙◌, subst, inl, inr, arith}
use Rattle.model.specs.Paths.{Path*, Path⁺, step}
use Rattle.model.specs.Forests.{Chain, Falls, Split}
use Rattle.model.specs.Specifications.{Spec, Edge, Sealed}
use Rattle.model.specs.Runs.{Run, Placed, Conforms, Derived}
use Rattle.model.specs.Relating.{Apart, Earlier, Rel}
use Rattle.model.specs.Orders.{order1, order2, order3, Turned, Before}
use Rattle.model.specs.Labels.{Label, Labelled, Yes, by_equal, by_loop, by_reach}
use Rattle.model.specs.Laws.{Listed}
use Rattle.std.proofs.lemmas.Bool.{cases_eq, cases_lt}
use Rattle.model.proofs.Cases.{cases}
use Rattle.model.proofs.Chains.{split_self, split_left, split_right, split_flip, one_left, one_right}
use Rattle.model.proofs.Copies.{chain_range, block_pos, copy_range, earlier_apart, never_apart}
use Rattle.model.proofs.Orders.{meet, branch, position_less, position_same, position_copy, position_of, position_one}
use Rattle.model.proofs.Paths.{path_map, path_last}
use Rattle.model.proofs.Complete.{no_run_cycle, sound_listed, complete_listed}

-- the kind of a group, as the order has it
turned_at : (o : ℕ → Bool) {k l : ℕ} (s t : ℕ) → k ≡ l → Turned (o l) s t → Turned (o k) s t
turned_at o s t e h = subst (λ x. Turned (o x) s t) (sym e) h

-- How two copies lie to one another: they are one; near, one under the other or under copies of different blocks, where all orders agree;
-- in two copies of a fork, where order 2 turns them round; or in two turns of a loop, where order 3 does.
data Pair (sp : Spec) (r : Run) (i j : ℕ) : Type 0 where
  one : i ≡ j → Pair sp r i j
  near_on : (¬ (Apart r i j)) → ((o : ℕ → Bool) → Before sp r o i j) → Pair sp r i j
  near_back : (¬ (Apart r i j)) → ((o : ℕ → Bool) → Before sp r o j i) → Pair sp r i j
  fork_on : Apart r i j → (¬ (Earlier sp r i j)) → Before sp r order1 i j → Before sp r order2 j i → Pair sp r i j
  fork_back : Apart r i j → (¬ (Earlier sp r i j)) → Before sp r order1 j i → Before sp r order2 i j → Pair sp r i j
  loop_on : Earlier sp r i j → Before sp r order1 i j → Before sp r order2 i j → Before sp r order3 j i → Pair sp r i j
  loop_back : Apart r i j → (¬ (Earlier sp r i j)) → Before sp r order1 j i → Before sp r order2 j i → Before sp r order3 i j → Pair sp r i j

module _ {sp : Spec} {r : Run} (P : Placed sp r) where
  pub one_label : {u w : ℕ} → u < r.v → w < r.v → {A : Label} → Labelled sp r u A → Labelled sp r w A → u ≡ w
  one_label {u} {w} hu hw {A} a b = P.only_step u w hu hw
      (position_copy sp r order1 P.tree (r.context u) (r.context w) A.q1 (P.context_range u hu) (P.context_range w hw) a.at1 b.at1)
      (sym a.is_vertex ∙ b.is_vertex)

  -- the label that the positions of a step's context make
  label_of : (u : ℕ) → u < r.v → (A : Label) × Labelled sp r u A
  label_of u hu =
      let place = λ (o : ℕ → Bool). position_of sp r o P.tree (r.context u) (P.context_range u hu) in (
        record { q1 = (place order1).0; q2 = (place order2).0; q3 = (place order3).0; vertex = r.origin u },
        record { at1 = (place order1).2; at2 = (place order2).2; at3 = (place order3).2; is_vertex = refl },
      )

  same_label : {u : ℕ} {A B : Label} → Labelled sp r u A → Labelled sp r u B → A ≡ B
  same_label {u} {A} {B} a b =
      let e1 : A.q1 ≡ B.q1 = position_one sp r order1 P.tree (r.context u) A.q1 B.q1 a.at1 b.at1 in
      let e2 : A.q2 ≡ B.q2 = position_one sp r order2 P.tree (r.context u) A.q2 B.q2 a.at2 b.at2 in
      let e3 : A.q3 ≡ B.q3 = position_one sp r order3 P.tree (r.context u) A.q3 B.q3 a.at3 b.at3 in
      let e4 : A.vertex ≡ B.vertex = a.is_vertex ∙ sym b.is_vertex in
      λ i. record { q1 = e1 i; q2 = e2 i; q3 = e3 i; vertex = e4 i }

  pub each_label : (u : ℕ) → u < r.v → (A : Label) × Labelled sp r u A × ((B : Label) → Labelled sp r u B → B ≡ A)
  each_label u hu = let w = label_of u hu in (w.0, w.1, λ B b. same_label b w.1)

module _ {sp : Spec} {r : Run} (S : Sealed sp) (P : Placed sp r) where
  nest : Falls sp.above
  nest = S.ranges.nest

  above_not_apart : {i j : ℕ} → Chain r.parent j i → ¬ (Apart r i j)
  above_not_apart c A = A.differ (split_self P.tree (split_left c A.split))

  below_not_apart : {i j : ℕ} → Chain r.parent i j → ¬ (Apart r i j)
  below_not_apart c A = A.differ (split_self P.tree (split_right c A.split))

  module _ {i j s t : ℕ} (hi : i < r.c) (x : Split r.parent i j s t) (d : s ≢ t) where
    same_es : (E : Earlier sp r i j) → E.es ≡ s
    same_es E = one_left P.tree E.esplit (λ e. omega (arith, e, E.eless)) x d

    same_et : (E : Earlier sp r i j) → E.et ≡ t
    same_et E = one_right P.tree E.esplit (λ e. omega (arith, e, E.eless)) x d

    apart_here : r.block s ≡ r.block t → Apart r i j
    apart_here e = record { s = s; t = t; split = x; same_block = e; differ = d }

    other_block : r.block s ≢ r.block t → ¬ (Apart r i j)
    other_block g A =
        let left : A.s ≡ s = one_left P.tree A.split A.differ x d in
        let right : A.t ≡ t = one_right P.tree A.split A.differ x d in
        g (ap r.block (sym left) ∙ A.same_block ∙ ap r.block right)

    back : Split r.parent j i t s
    back = split_flip x

    forked : r.block s ≡ r.block t → sp.kind (r.block s) ≡ 1 → Pair sp r i j
    forked e k =
        let k' : sp.kind (r.block t) ≡ 1 = ap sp.kind (sym e) ∙ k in
        let not : ¬ (Earlier sp r i j) = λ E. omega (arith, k, E.eloop, ap (λ y. sp.kind (r.block y)) (same_es E)) in
        cases (cases_lt s t)
        (λ l. fork_on (apart_here e) not
        (branch sp r order1 x (inr (e, l)))
        (branch sp r order2 back (inr (sym e, turned_at order2 t s k' l))))
        (λ l. let l' : t < s = omega arith in
        fork_back (apart_here e) not
        (branch sp r order1 back (inr (sym e, l')))
        (branch sp r order2 x (inr (e, turned_at order2 s t k l'))))

    looped : r.block s ≡ r.block t → sp.kind (r.block s) ≡ 2 → Pair sp r i j
    looped e k =
        let k' : sp.kind (r.block t) ≡ 2 = ap sp.kind (sym e) ∙ k in
        cases (cases_lt s t)
        (λ l. loop_on (record { es = s; et = t; esplit = x; eblock = e; eless = l; eloop = k })
        (branch sp r order1 x (inr (e, l)))
        (branch sp r order2 x (inr (e, turned_at order2 s t k l)))
        (branch sp r order3 back (inr (sym e, turned_at order3 t s k' l))))
        (λ l. let l' : t < s = omega arith in
        let not : ¬ (Earlier sp r i j) = λ E. omega (arith, l', E.eless, same_es E, same_et E) in
        loop_back (apart_here e) not
        (branch sp r order1 back (inr (sym e, l')))
        (branch sp r order2 back (inr (sym e, turned_at order2 t s k' l')))
        (branch sp r order3 x (inr (e, turned_at order3 s t k l'))))

    split_pair : Pair sp r i j
    split_pair = cases (cases_eq (r.block s) (r.block t))
        (λ e. let hs : s < r.c = chain_range nest P hi x.left in
        cases (S.ranges.kinds (r.block s) (block_pos nest P x.left_pos hs) (copy_range nest P hs x.left_pos)) (forked e) (looped e))
        (λ g. cases (cases_lt (r.block s) (r.block t))
        (λ l. near_on (other_block g) (λ o. branch sp r o x (inl l)))
        (λ l. let l' : r.block t < r.block s = omega arith in near_back (other_block g) (λ o. branch sp r o back (inl l'))))

  pair : (i j : ℕ) → i < r.c → Pair sp r i j
  pair i j hi = cases (cases_eq i j) one λ d. cases (meet P.tree i j)
      (λ c. near_on (above_not_apart c) (λ o. inl (c, d)))
      (λ m. cases m
      (λ c. near_back (below_not_apart c) (λ o. inl (c, λ e. d (sym e))))
      (λ y. split_pair hi y.2 y.3))

  module _ {u w : ℕ} (hu : u < r.v) (hw : w < r.v) {A B : Label} (a : Labelled sp r u A) (b : Labelled sp r w B) where
    abbrev Reach : Type 0
    Reach = Path* (Edge sp) A.vertex B.vertex

    i_range : r.context u < r.c
    i_range = P.context_range u hu

    j_range : r.context w < r.c
    j_range = P.context_range w hw

    reach_to : Path* (Edge sp) (r.origin u) (r.origin w) → Reach
    reach_to p = rw (a.is_vertex, b.is_vertex) p

    reach_from : Reach → Path* (Edge sp) (r.origin u) (r.origin w)
    reach_from p = rw (a.is_vertex, b.is_vertex) at p

    less1 : Before sp r order1 (r.context u) (r.context w) → A.q1 < B.q1
    less1 = position_less sp r order1 P.tree (r.context u) (r.context w) A.q1 B.q1 i_range a.at1 b.at1

    less2 : Before sp r order2 (r.context u) (r.context w) → A.q2 < B.q2
    less2 = position_less sp r order2 P.tree (r.context u) (r.context w) A.q2 B.q2 i_range a.at2 b.at2

    less3 : Before sp r order3 (r.context u) (r.context w) → A.q3 < B.q3
    less3 = position_less sp r order3 P.tree (r.context u) (r.context w) A.q3 B.q3 i_range a.at3 b.at3

    more1 : Before sp r order1 (r.context w) (r.context u) → B.q1 < A.q1
    more1 = position_less sp r order1 P.tree (r.context w) (r.context u) B.q1 A.q1 j_range b.at1 a.at1

    more2 : Before sp r order2 (r.context w) (r.context u) → B.q2 < A.q2
    more2 = position_less sp r order2 P.tree (r.context w) (r.context u) B.q2 A.q2 j_range b.at2 a.at2

    more3 : Before sp r order3 (r.context w) (r.context u) → B.q3 < A.q3
    more3 = position_less sp r order3 P.tree (r.context w) (r.context u) B.q3 A.q3 j_range b.at3 a.at3

    near_path : (¬ (Apart r (r.context u) (r.context w))) → Rel sp r u w → Reach
    near_path f (inl E) = absurd (f (earlier_apart E))
    near_path f (inr N) = reach_to N.1

    not_rel : Apart r (r.context u) (r.context w) → (¬ (Earlier sp r (r.context u) (r.context w))) → Rel sp r u w → ⊥
    not_rel x f (inl E) = f E
    not_rel x f (inr N) = N.0 x

    to_yes : Pair sp r (r.context u) (r.context w) → Rel sp r u w → Yes A B Reach
    to_yes (one e) R = by_equal (position_same sp r order1 P.tree (r.context u) (r.context w) A.q1 B.q1 e a.at1 b.at1)
        (near_path (λ x. never_apart nest P (subst (λ y. Apart r y (r.context w)) e x)) R)
    to_yes (near_on f g) R =
        let l1 = less1 (g order1) in let l2 = less2 (g order2) in let l3 = less3 (g order3) in
        by_reach (omega arith) (λ x. omega arith) (λ x. omega arith) (near_path f R)
    to_yes (near_back f g) R =
        let l1 = more1 (g order1) in let l2 = more2 (g order2) in let l3 = more3 (g order3) in
        by_reach (omega arith) (λ x. omega arith) (λ x. omega arith) (near_path f R)
    to_yes (fork_on x f b1 b2) R = absurd (not_rel x f R)
    to_yes (fork_back x f b1 b2) R = absurd (not_rel x f R)
    to_yes (loop_on E b1 b2 b3) R =
        let l1 = less1 b1 in let l2 = less2 b2 in let l3 = more3 b3 in
        by_loop (omega arith) (λ x. omega arith) (inl (l1, l3)) l1
    to_yes (loop_back x f b1 b2 b3) R = absurd (not_rel x f R)

    from_yes : Pair sp r (r.context u) (r.context w) → Yes A B Reach → Rel sp r u w
    from_yes (one e) y =
        let q = position_same sp r order1 P.tree (r.context u) (r.context w) A.q1 B.q1 e a.at1 b.at1 in
        inr (
          (λ x. never_apart nest P (subst (λ y. Apart r y (r.context w)) e x)),
          elim y [ by_equal e' p ↦ reach_from p | by_loop g n x l ↦ absurd (g q) | by_reach g n n' p ↦ reach_from p ],
        )
    from_yes (near_on f g) y =
        let l1 = less1 (g order1) in let l2 = less2 (g order2) in let l3 = less3 (g order3) in
        inr (f, elim y [ by_equal e' p ↦ reach_from p | by_loop g n x l ↦ absurd (omega arith) | by_reach g n n' p ↦ reach_from p ])
    from_yes (near_back f g) y =
        let l1 = more1 (g order1) in let l2 = more2 (g order2) in let l3 = more3 (g order3) in
        inr (f, elim y [ by_equal e' p ↦ reach_from p | by_loop g n x l ↦ absurd (omega arith) | by_reach g n n' p ↦ reach_from p ])
    from_yes (fork_on x f b1 b2) y =
        let l1 = less1 b1 in let l2 = more2 b2 in
        elim y [ by_equal e' p ↦ absurd (omega arith) | by_loop g n x l ↦ absurd (n (inl (l1, l2))) | by_reach g n n' p ↦ absurd (n (inl (l1, l2))) ]
    from_yes (fork_back x f b1 b2) y =
        let l1 = more1 b1 in let l2 = less2 b2 in
        elim y [ by_equal e' p ↦ absurd (omega arith) | by_loop g n x l ↦ absurd (n (inr (l1, l2))) | by_reach g n n' p ↦ absurd (n (inr (l1, l2))) ]
    from_yes (loop_on E b1 b2 b3) y = inl E
    from_yes (loop_back x f b1 b2 b3) y =
        let l1 = more1 b1 in let l3 = less3 b3 in
        elim y [ by_equal e' p ↦ absurd (omega arith) | by_loop g n x l ↦ absurd (omega arith) | by_reach g n n' p ↦ absurd (n' (inr (l1, l3))) ]

    yes_of : Rel sp r u w → Yes A B Reach
    yes_of = to_yes (pair (r.context u) (r.context w) i_range)

    rel_of : Yes A B Reach → Rel sp r u w
    rel_of = from_yes (pair (r.context u) (r.context w) i_range)

module _ {sp : Spec} {r : Run} (S : Sealed sp) (C : Conforms sp r) where
  module _ {u w : ℕ} (hu : u < r.v) (hw : w < r.v) {A B : Label} (a : Labelled sp r u A) (b : Labelled sp r w B) where
    pub says : Path* (Listed r) u w → Yes A B (Path* (Edge sp) A.vertex B.vertex)
    says p = yes_of S C.placed hu hw a b (sound_listed S C hu p)

    pub said : Yes A B (Path* (Edge sp) A.vertex B.vertex) → Path* (Listed r) u w
    said y = complete_listed S C hu hw (rel_of S C.placed hu hw a b y)

    pub after_says : Path⁺ (Listed r) u w → (A ≢ B) × Yes A B (Path* (Edge sp) A.vertex B.vertex)
    after_says p = (
      (λ e.
          let q : u ≡ w = one_label C.placed hu hw (subst (λ x. Labelled sp r u x) e a) b in
          let d : Path* (Derived sp r) u p.0 = path_map (λ a b e. (C.exactly a b).0 e) p.1 in
          no_run_cycle S C.placed u p.0 d (subst (λ x. Derived sp r p.0 x) (sym q) ((C.exactly p.0 w).0 p.2))),
      says (step p.1 p.2),
    )

    pub after_said : (A ≢ B) × Yes A B (Path* (Edge sp) A.vertex B.vertex) → Path⁺ (Listed r) u w
    after_said y = cases (path_last (said y.1))
        (λ e. absurd (y.0 (same_label C.placed a (subst (λ x. Labelled sp r x B) (sym e) b))))
        (λ x. x)
