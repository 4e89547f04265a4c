-- What sealing gives: how paths enter and leave the domain of a loop or a fork, and the block farthest from 0 that holds two vertices.
use Rattle.std.proofs.Common.{◌≡◌, ℕ, zero, suc, ◌<◌, ◌≤◌, ◌⊎◌, refl, inl, inr, arith}
use Rattle.model.specs.Paths.{Path*, here, step}
use Rattle.model.specs.Forests.{Chain, stop, up, Falls}
use Rattle.model.specs.Specifications.{Spec, Edge, Domain, KeepsLoopRule, ForkDomain, Sealed}
use Rattle.model.specs.Runs.{Farthest}
use Rattle.std.proofs.lemmas.Bool.{cases_eq}
use Rattle.model.proofs.Cases.{cases}
use Rattle.model.proofs.Chains.{chain_le, chain_dec, chain_join, above_zero, chain_parent, depth_of, depth_le, depth_chain}
use Rattle.model.proofs.Paths.{path_join, path_turn, walk}

-- no edge leads from the end of a path back to its start
pub no_cycle : {s : Spec} → Sealed s → (x y : ℕ) → Path* (Edge s) x y → Edge s y x → ⊥
no_cycle S x y p e = S.acyclic x (y, p, e)

module _ {s : Spec} (S : Sealed s) where
  pub in_range : {k x : ℕ} → Domain s k x → x < s.n → k < s.b
  in_range {k} {x} i h = omega (arith, chain_le S.ranges.nest i, S.ranges.home_range x h)

  pub in_or : (k x : ℕ) → Domain s k x ⊎ (¬ (Domain s k x))
  in_or k x = chain_dec S.ranges.nest (s.home x) k

  pub no_circle : {x y : ℕ} → Path* (Edge s) x y → Path* (Edge s) y x → x ≡ y
  no_circle {x} p here = refl
  no_circle {x} {y} p (step {y = z} q e) = absurd (no_cycle S x z (path_join p q) e)

  module _ {k : ℕ} (L : KeepsLoopRule s k) where
    pub enters : {x y : ℕ} → Edge s x y → (¬ (Domain s k x)) → Domain s k y → y ≡ s.source k
    enters {x} {y} e f i = cases (cases_eq y (s.source k)) (λ h. h) (λ d. absurd (f (L.all_in y x i d e)))

    pub leaves : {x y : ℕ} → Edge s x y → Domain s k x → (¬ (Domain s k y)) → x ≡ s.sink k
    leaves {x} {y} e i f = cases (cases_eq x (s.sink k)) (λ h. h) (λ d. absurd (f (L.all_out x y i d e)))

    -- walking back inside the domain ends at the source, and walking on at the sink

    pub from_source : {x : ℕ} → x < s.n → Domain s k x → Path* (Edge s) (s.source k) x
    from_source {x} h i =
        let w = walk (Edge s) (λ y. (y < s.n) × Domain s k y) (λ y. y ≡ s.source k) s.n (no_cycle S) (λ y a. a.0)
        (λ y a. cases (cases_eq y (s.source k)) inl (λ d. let e = L.some_in y a.0 a.1 d in
        inr (e.0, e.1, ((S.ranges.edge_range e.0 y e.1).0, L.all_in y e.0 a.1 d e.1))))
        x (h, i) in
        rw w.1 at w.3

    pub to_sink : {x : ℕ} → x < s.n → Domain s k x → Path* (Edge s) x (s.sink k)
    to_sink {x} h i =
        let w = walk (λ a b. Edge s b a) (λ y. (y < s.n) × Domain s k y) (λ y. y ≡ s.sink k) s.n
        (λ a b p e. no_cycle S b a (path_turn {R = Edge s} p) e) (λ y a. a.0)
        (λ y a. cases (cases_eq y (s.sink k)) inl (λ d. let e = L.some_out y a.0 a.1 d in
        inr (e.0, e.1, ((S.ranges.edge_range y e.0 e.1).1, L.all_out y e.0 a.1 d e.1))))
        x (h, i) in
        rw w.1 at (path_turn {R = Edge s} w.3)

    -- a path from outside to inside passes the source
    pub enters_at_source : {x y : ℕ} → (¬ (Domain s k x)) → Path* (Edge s) x y → Domain s k y → Path* (Edge s) x (s.source k)
    enters_at_source f here i = absurd (f i)
    enters_at_source f (step {y = z} p e) i = cases (in_or k z) (λ j. enters_at_source f p j) (λ g. rw (enters e g i) at (step p e))

  -- walking back inside the domain of a fork ends where an edge comes from its source
  fork_from_source : {k x : ℕ} → ForkDomain s k → x < s.n → Domain s k x → (y : ℕ) × Edge s (s.source k) y × Path* (Edge s) y x
  fork_from_source {k} {x} F h i =
      let w = walk (Edge s) (λ y. (y < s.n) × Domain s k y) (λ y. Edge s (s.source k) y) s.n (no_cycle S) (λ y a. a.0)
      (λ y a. let e = F.fork_some_in y a.0 a.1 in
      cases (F.fork_all_in y e.0 a.1 e.1)
      (λ j. inr (e.0, e.1, ((S.ranges.edge_range e.0 y e.1).0, j)))
      (λ q. inl (rw q at e.1)))
      x (h, i) in
      (w.0, w.1, w.3)

  -- a path that has left the domain of a loop or a fork does not come back in: it would come in at the source and close a cycle
  pub no_way_back : {k x y z : ℕ} → 0 < k → x < s.n → Domain s k x → Path* (Edge s) x y → (¬ (Domain s k y)) → Edge s y z
      → Domain s k z → ⊥
  no_way_back {k} {x} {y} {z} h hx i p f e j =
      let r : k < s.b = in_range i hx in
      cases (S.ranges.kinds k h r)
      (λ q. let F = (S.forks k h r q).inner in
      cases (F.fork_all_in z y j e) f (λ q. let w = fork_from_source F hx i in
      no_cycle S w.0 y (path_join w.2 p) (rw (← q) at w.1)))
      (λ q. let L = S.loops k h r q in
      no_cycle S (s.source k) y (path_join (from_source L hx i) p) (rw (enters L e f j) at e))

module _ {s : Spec} (N : Falls s.above) where
  -- the block farthest from 0 that holds x and y has every block that holds both in its chain
  pub far_chain : {x y a : ℕ} → Farthest s x y a → (k : ℕ) → Domain s k x → Domain s k y → Chain s.above a k
  far_chain {x} {y} {a} F k i j =
      let d = depth_of N k in
      let e = depth_of N a in
      depth_chain N F.holds_x i d.1 e.1 (F.farthest k d.0 e.0 i j d.1 e.1)

  -- and what has them all in its chain is the farthest
  pub far_by_chain : {x y a : ℕ} → Domain s a x → Domain s a y → ((k : ℕ) → Domain s k x → Domain s k y → Chain s.above a k)
      → Farthest s x y a
  far_by_chain i j f = record { holds_x = i; holds_y = j; farthest = λ k d e a b x y. depth_le N (f k a b) y x }

  -- the first block in the chain of x's home that holds y
  pub farthest_of : (x y : ℕ) → (a : ℕ) × Farthest s x y a
  farthest_of x y = go (s.home x) (s.home x) (omega arith) stop (λ k c d. c)
    where
      go : (m a : ℕ) → a ≤ m → Domain s a x → ((k : ℕ) → Domain s k x → Domain s k y → Chain s.above a k)
          → (a : ℕ) × Farthest s x y a
      go m zero h i f = (zero, far_by_chain i (above_zero N (s.home y)) f)
      go zero (suc a) h i f = absurd (omega arith)
      go (suc m) (suc a) h i f = cases (chain_dec N (s.home y) (suc a))
          (λ j. (suc a, far_by_chain i j f))
          (λ g. go m (s.above (suc a)) (omega (arith, N.falls (suc a) (omega arith))) (chain_join i (up stop))
          (λ k c d. cases (chain_parent (f k c d)) (λ e. absurd (g (rw (← e) at d))) (λ x. x)))
