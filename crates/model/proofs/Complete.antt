-- Where the relation of contexts and origins holds, a path of derived edges leads: every step but u itself to which u led has a predecessor
-- to which u led, and a walk back along predecessors ends. With the other direction, both hold of the edges that a conforming run lists.
use Rattle.std.proofs.Common.{◌≡◌, ℕ, ◌<◌, ◌≤◌, ◌≢◌, ◌⊎◌, sym, ap, ◌∙◌, subst, inl, inr, arith}
use Rattle.model.specs.Paths.{Path*, here, step}
use Rattle.model.specs.Forests.{Chain, stop, up, Falls}
use Rattle.model.specs.Specifications.{Spec, Edge, Domain, KeepsLoopRule, Sealed}
use Rattle.model.specs.Runs.{Run, Placed, Conforms, Mate, Next, Firsts, Derived, Farthest}
use Rattle.model.specs.Relating.{Apart, Earlier, Rel}
use Rattle.model.specs.Laws.{Listed}
use Rattle.std.proofs.lemmas.Bool.{cases_eq, cases_lt}
use Rattle.model.proofs.Cases.{cases}
use Rattle.model.proofs.Chains.{over, chain_le, chain_parent, chain_dec, chain_join, above_split, one_left, one_right, split_flip}
use Rattle.model.proofs.Paths.{path_join, path_one, path_last, path_map, walk}
use Rattle.model.proofs.Sealing.{no_cycle, enters, from_source, to_sink, no_circle, farthest_of, far_chain}
use Rattle.model.proofs.Copies.{chain_range, maps, agree, same_or_apart, in_copy, copy_in, copy_range, next_pos, apart_flip, apart_as, earlier_apart, earlier_as, earlier_next, never_apart, mates_apart, mates_earlier}
use Rattle.model.proofs.Groups.{Turn, firsts_or_turn, first_or_next, mate_turn, mate_join}
use Rattle.model.proofs.Descend.{Lands, descend, follow}
use Rattle.model.proofs.Sound.{loop_of, sound}

module _ {s : Spec} {r : Run} (S : Sealed s) (P : Placed s r) where
  nest : Falls s.above
  nest = S.ranges.nest

  -- the copy, in w's chain, of the block farthest from 0 that holds z' and the origin of w
  record Common (w z' : ℕ) : Type 0 where
    m_copy : ℕ
    m_in : Chain r.parent (r.context w) m_copy
    m_far : Farthest s z' (r.origin w) (r.block m_copy)

  common_of : (w z' : ℕ) → w < r.v → Common w z'
  common_of w z' hw =
      let a = farthest_of {s = s} nest z' (r.origin w) in
      let q = in_copy nest P hw a.1.holds_y in
      record { m_copy = q.0; m_in = q.1; m_far = rw q.2 a.1 }

  -- a step there with origin z'
  common_down : {w z' : ℕ} → w < r.v → (M : Common w z') → z' < s.n → (v : ℕ) × Lands s r M.m_copy z' v
  common_down {w} {z'} hw M hz = descend S P M.m_copy z' (chain_range nest P (P.context_range w hw) M.m_in) hz M.m_far.holds_x

  -- a copy in w's chain of a block that holds z' too
  common_above : {w z' t : ℕ} → w < r.v → (M : Common w z') → Chain r.parent (r.context w) t → Domain s (r.block t) z'
      → Chain r.parent M.m_copy t
  common_above {w} {z'} {t} hw M c i = agree nest P (P.context_range w hw) M.m_in c (far_chain nest M.m_far (r.block t) i (copy_in nest P hw c))

  turn_pos : {i d : ℕ} (t : Turn s r i d) → 0 < t.q
  turn_pos t = t.turn_next.mate.not_zero

  turn_rule : {i d : ℕ} (t : Turn s r i d) → KeepsLoopRule s (r.block t.q)
  turn_rule t = loop_of S P t.turn_next.mate.exists (turn_pos t) t.turn_loop

  turn_block : {i d : ℕ} (t : Turn s r i d) → r.block t.q < s.b
  turn_block t = copy_range nest P t.turn_next.mate.exists (turn_pos t)

  -- an edge from z' comes into the turn from outside
  turn_source : {w z' : ℕ} → w < r.v → (M : Common w z') → Edge s z' (r.origin w) → (t : Turn s r (r.context w) M.m_copy)
      → r.origin w ≡ s.source (r.block t.q)
  turn_source {w} {z'} hw M e t =
      enters S (turn_rule t) e
      (λ i.
      let below : t.q ≤ M.m_copy = chain_le P.tree (common_above hw M t.turn_in i) in
      omega (arith, below, chain_le P.tree t.turn_above, P.tree.falls t.q (turn_pos t)))
      (copy_in nest P hw t.turn_in)

  -- the edge of the first kind from a step below the common copy
  plain_edge : {w z' v : ℕ} → w < r.v → (M : Common w z') → Edge s z' (r.origin w) → Firsts s r (r.context w) M.m_copy
      → Lands s r M.m_copy z' v → Derived s r v w
  plain_edge {w} {z'} {v} hw M e f l = record {
    tail_range = l.land_range;
    head_range = hw;
    way = inl (record {
      plain_edge = rw (← l.land_origin) at e;
      common = M.m_copy;
      far = rw (← l.land_origin) at M.m_far;
      in_u = l.land_below;
      in_w = M.m_in;
      lasts = l.land_lasts;
      firsts = f;
    });
  }

  -- the edge of the second kind from a step at the end of the turn before
  back_edge : {w p q v : ℕ} → w < r.v → Chain r.parent (r.context w) q → s.kind (r.block q) ≡ 2 → Firsts s r (r.context w) q
      → Next r p q → r.origin w ≡ s.source (r.block q) → Lands s r p (s.sink (r.block q)) v → Derived s r v w
  back_edge {w} {p} {q} {v} hw c k f n e l = record {
    tail_range = l.land_range;
    head_range = hw;
    way = inr (record {
      from = p;
      to = q;
      is_loop = rw n.mate.one_block at k;
      from_sink = l.land_origin ∙ ap s.sink n.mate.one_block;
      to_source = e ∙ ap s.source n.mate.one_block;
      back_u = l.land_below;
      back_w = c;
      next = n;
      back_lasts = l.land_lasts;
      back_firsts = f;
    });
  }

  -- the step at the end of the copy before a turn
  turn_edge : {w d : ℕ} → w < r.v → (t : Turn s r (r.context w) d) → r.origin w ≡ s.source (r.block t.q)
      → (v : ℕ) × Derived s r v w × Lands s r t.p (s.sink (r.block t.q)) v
  turn_edge {w} {d} hw t e =
      let n = t.turn_next in
      let L = turn_rule t in
      let end = s.sink (r.block t.q) in
      let end_in : Domain s (r.block t.p) end = subst (λ k. Domain s k end) n.mate.one_block L.sink_in in
      let u = descend S P t.p end (omega (arith, n.later, n.mate.exists)) (S.ranges.sink_range (r.block t.q) (turn_block t)) end_in in
      (u.0, back_edge hw t.turn_in t.turn_loop t.turn_firsts n e u.1, u.1)

  -- what is below the turn before is below d too
  turn_over : {i j d : ℕ} (t : Turn s r i d) → Chain r.parent j t.p → Chain r.parent j d
  turn_over t c = over c (sym t.turn_next.mate.one_parent) t.turn_above

  -- a predecessor inside the loop copy t, or else w is at the very start of t
  abbrev Inside : ℕ → ℕ → Type 0
  Inside w t = ((v : ℕ) × Derived s r v w × Chain r.parent (r.context v) t)
      ⊎ ((r.origin w ≡ s.source (r.block t)) × Firsts s r (r.context w) t)

  inside : {w t : ℕ} → w < r.v → Chain r.parent (r.context w) t → 0 < t → s.kind (r.block t) ≡ 2 → Inside w t
  inside {w} {t} hw c z k = cases (cases_eq (r.origin w) (s.source (r.block t))) at_source elsewhere
    where
      L : KeepsLoopRule s (r.block t)
      L = loop_of S P (chain_range nest P (P.context_range w hw) c) z k

      z_in : Domain s (r.block t) (r.origin w)
      z_in = copy_in nest P hw c

      -- the source of a loop is the source of every loop inside that holds it: an edge into it would close a cycle
      too : r.origin w ≡ s.source (r.block t) → (T : Turn s r (r.context w) t) → r.origin w ≡ s.source (r.block T.q)
      too e T = cases (cases_eq (r.origin w) (s.source (r.block T.q))) (λ x. x) λ d.
          let g = (turn_rule T).some_in (r.origin w) (P.origin_range w hw) (copy_in nest P hw T.turn_in) d in
          let g_in : Domain s (r.block T.q) g.0 = (turn_rule T).all_in (r.origin w) g.0 (copy_in nest P hw T.turn_in) d g.1 in
          let g_in' : Domain s (r.block t) g.0 = chain_join g_in (maps nest P T.turn_next.mate.exists (up T.turn_above)) in
          let from_start = from_source S L (S.ranges.edge_range g.0 (r.origin w) g.1).0 g_in' in
          absurd (no_cycle S (s.source (r.block t)) g.0 from_start (subst (λ x. Edge s g.0 x) e g.1))

      at_source : r.origin w ≡ s.source (r.block t) → Inside w t
      at_source e = cases (firsts_or_turn s P.tree (P.context_range w hw) c)
          (λ f. inr (e, f))
          (λ T. let v = turn_edge hw T (too e T) in inl (v.0, v.1, turn_over T v.2.land_below))

      elsewhere : r.origin w ≢ s.source (r.block t) → Inside w t
      elsewhere d =
          let e = L.some_in (r.origin w) (P.origin_range w hw) z_in d in
          let e_in : Domain s (r.block t) e.0 = L.all_in (r.origin w) e.0 z_in d e.1 in
          let M = common_of w e.0 hw in
          let ct = common_above hw M c e_in in
          cases (firsts_or_turn s P.tree (P.context_range w hw) M.m_in)
          (λ f.
          let v = common_down hw M (S.ranges.edge_range e.0 (r.origin w) e.1).0 in
          inl (v.0, plain_edge hw M e.1 f v.1, chain_join v.1.land_below ct))
          (λ T.
          let v = turn_edge hw T (turn_source hw M e.1 T) in
          inl (v.0, v.1, chain_join (turn_over T v.2.land_below) ct))

  -- a step just before w to which u led
  abbrev BeforeIt : ℕ → ℕ → Type 0
  BeforeIt u w = (v : ℕ) × Derived s r v w × Rel s r u v

  -- u is in an earlier turn than w: w has a predecessor in its turn, or else one at the end of the turn before
  pred_earlier : {u w : ℕ} → u < r.v → w < r.v → Earlier s r (r.context u) (r.context w) → BeforeIt u w
  pred_earlier {u} {w} hu hw E = cases (inside hw c E.esplit.right_pos k)
      (λ v. (v.0, v.1, inl (earlier_as E E.esplit.left v.2)))
      (λ a. cases (first_or_next E.et ht E.esplit.right_pos)
      (λ g. absurd (omega (arith, g E.es ms, E.eless)))
      (λ n. turn_before n.0 n.1 a.0 a.1))
    where
      c : Chain r.parent (r.context w) E.et
      c = E.esplit.right

      k : s.kind (r.block E.et) ≡ 2
      k = rw E.eblock at E.eloop

      ht : E.et < r.c
      ht = chain_range nest P (P.context_range w hw) c

      L : KeepsLoopRule s (r.block E.et)
      L = loop_of S P ht E.esplit.right_pos k

      ms : Mate r E.et E.es
      ms = record {
        exists = chain_range nest P (P.context_range u hu) E.esplit.left;
        not_zero = E.esplit.left_pos;
        one_parent = E.esplit.same_parent;
        one_block = E.eblock;
      }

      sink_range : s.sink (r.block E.et) < s.n
      sink_range = S.ranges.sink_range (r.block E.et) (copy_range nest P ht E.esplit.right_pos)

      turn_before : (p : ℕ) → Next r p E.et → r.origin w ≡ s.source (r.block E.et) → Firsts s r (r.context w) E.et → BeforeIt u w
      turn_before p n e f = cases (cases_eq E.es p) own_turn later_turn
        where
          sink_in : Domain s (r.block p) (s.sink (r.block E.et))
          sink_in = subst (λ k. Domain s k (s.sink (r.block E.et))) n.mate.one_block L.sink_in

          hp : p < r.c
          hp = omega (arith, n.later)

          mp : Mate r p E.es
          mp = mate_join n.mate ms

          -- u is in the turn before: follow its chain to the sink
          own_turn : E.es ≡ p → BeforeIt u w
          own_turn x =
              let iu : Chain r.parent (r.context u) p = rw x at E.esplit.left in
              let v = follow S P p (s.sink (r.block E.et)) (r.context u) (P.context_range u hu) iu sink_range sink_in in
              let x_in : Domain s (r.block E.et) (r.origin u) = rw E.eblock at (copy_in nest P hu E.esplit.left) in
              let path : Path* (Edge s) (r.origin u) (r.origin v.0) = rw v.1.land_origin (to_sink S L (P.origin_range u hu) x_in) in
              (v.0, back_edge hw c k f n e v.1, cases v.2 (λ g. inr (g, path)) inl)

          later_turn : E.es ≢ p → BeforeIt u w
          later_turn d =
              let v = descend S P p (s.sink (r.block E.et)) hp sink_range sink_in in
              let l : E.es < p = cases (cases_lt E.es p) (λ x. x)
              (λ x. absurd (omega (arith, E.eless, n.none_between E.es mp (omega arith)))) in
              let m : Mate r E.es p = mate_turn hp (next_pos nest P n) mp in
              (v.0, back_edge hw c k f n e v.1, inl (mates_earlier E.esplit.left v.1.land_below E.esplit.left_pos m l E.eloop))

  -- a path of the specification leads from u's origin by z' to w's: w has a predecessor with origin z', or else, where w is at the start of
  -- a turn of a loop, one at the end of the turn before
  pred_path : {u w z' : ℕ} → u < r.v → w < r.v → (¬ (Apart r (r.context u) (r.context w))) → Path* (Edge s) (r.origin u) z'
      → Edge s z' (r.origin w) → BeforeIt u w
  pred_path {u} {w} {z'} hu hw f p e = cases (firsts_or_turn s P.tree (P.context_range w hw) M.m_in) by_edge by_turn
    where
      M : Common w z'
      M = common_of w z' hw

      hz : z' < s.n
      hz = (S.ranges.edge_range z' (r.origin w) e).0

      by_edge : Firsts s r (r.context w) M.m_copy → BeforeIt u w
      by_edge g = cases (chain_dec P.tree (r.context u) M.m_copy)
          (λ c.
          let v = follow S P M.m_copy z' (r.context u) (P.context_range u hu) c hz M.m_far.holds_x in
          let p' : Path* (Edge s) (r.origin u) (r.origin v.0) = rw v.1.land_origin p in
          (v.0, plain_edge hw M e g v.1, cases v.2 (λ h. inr (h, p')) inl))
          (λ out.
          let v = common_down hw M hz in
          let p' : Path* (Edge s) (r.origin u) (r.origin v.0) = rw v.1.land_origin p in
          let near : ¬ (Apart r (r.context u) (r.context v.0)) = λ A. cases (above_split P.tree A.split v.1.land_below)
          (λ c. f (apart_as A A.split.left (chain_join M.m_in c)))
          out in
          (v.0, plain_edge hw M e g v.1, inr (near, p')))

      by_turn : Turn s r (r.context w) M.m_copy → BeforeIt u w
      by_turn T = (v.0, v.1, inr (near, p'))
        where
          L : KeepsLoopRule s (r.block T.q)
          L = turn_rule T

          n : Next r T.p T.q
          n = T.turn_next

          src : r.origin w ≡ s.source (r.block T.q)
          src = turn_source hw M e T

          v : (v : ℕ) × Derived s r v w × Lands s r T.p (s.sink (r.block T.q)) v
          v = turn_edge hw T src

          p' : Path* (Edge s) (r.origin u) (r.origin v.0)
          p' = rw v.2.land_origin
              (path_join (rw src at (step p e)) (to_sink S L (S.ranges.source_range (r.block T.q) (turn_block T)) L.source_in))

          -- u is not in this turn: its origin would lead to the loop's source
          not_in : (q : ℕ) → q ≡ T.q → Chain r.parent (r.context u) q → ⊥
          not_in q x c = no_cycle S (s.source (r.block T.q)) z'
              (path_join (from_source S L (P.origin_range u hu) (copy_in nest P hu (rw x at c))) p)
              (subst (λ x. Edge s z' x) src e)

          -- the other of two copies in which u and the predecessor are apart is a copy of this group, and not w's
          beside : (A : Apart r (r.context u) (r.context v.0)) → T.p ≡ A.t → A.s ≢ T.q → ⊥
          beside A q d = f (mates_apart A.split.left T.turn_in A.split.left_pos m d)
            where
              m : Mate r A.s T.q
              m = record {
                exists = n.mate.exists;
                not_zero = n.mate.not_zero;
                one_parent = n.mate.one_parent ∙ ap r.parent q ∙ sym A.split.same_parent;
                one_block = n.mate.one_block ∙ ap r.block q ∙ sym A.same_block;
              }

          near : ¬ (Apart r (r.context u) (r.context v.0))
          near A = cases (above_split P.tree A.split v.2.land_below)
              (λ c. cases (chain_parent c)
              (λ q. cases (cases_eq A.s T.q) (λ x. not_in A.s x A.split.left) (beside A q))
              (λ c'. f (apart_as A A.split.left (over T.turn_in n.mate.one_parent c'))))
              (λ c. f (mates_apart c T.turn_in (next_pos nest P n) n.mate (λ x. omega (arith, x, n.later))))

  -- steps with one origin that are not apart are one step
  same_context : {u w : ℕ} → u < r.v → w < r.v → (¬ (Apart r (r.context u) (r.context w))) → r.origin u ≡ r.origin w → u ≡ w
  same_context {u} {w} hu hw f e = cases
      (same_or_apart nest P (P.context_range u hu) (P.context_range w hw) stop stop (sym (P.at_home u hu) ∙ ap s.home e ∙ P.at_home w hw))
      (λ x. P.only_step u w hu hw x e) (λ A. absurd (f A))

  -- a step to which u led is u, or has a predecessor to which u led
  predecessor : {u w : ℕ} → u < r.v → w < r.v → u ≢ w → Rel s r u w → BeforeIt u w
  predecessor hu hw d (inl E) = pred_earlier hu hw E
  predecessor hu hw d (inr N) = cases (path_last N.1)
      (λ e. absurd (d (same_context hu hw N.0 e)))
      (λ p. pred_path hu hw N.0 p.1 p.2)

  rel_antisym : {u w : ℕ} → u < r.v → w < r.v → Rel s r u w → Rel s r w u → u ≡ w
  rel_antisym hu hw (inl E) (inl F) =
      let x = split_flip F.esplit in
      let d : E.es ≢ E.et = λ e. omega (arith, e, E.eless) in
      let d' : F.et ≢ F.es = λ e. omega (arith, e, F.eless) in
      absurd (omega (arith, E.eless, F.eless, one_left P.tree E.esplit d x d', one_right P.tree E.esplit d x d'))
  rel_antisym hu hw (inl E) (inr N) = absurd (N.0 (apart_flip (earlier_apart E)))
  rel_antisym hu hw (inr N) (inl F) = absurd (N.0 (apart_flip (earlier_apart F)))
  rel_antisym hu hw (inr N) (inr M) = same_context hu hw N.0 (no_circle S N.1 M.1)

  no_self : {u w : ℕ} → u ≡ w → Derived s r u w → ⊥
  no_self {u} {w} e D = cases D.way
      (λ F. no_cycle S (r.origin u) (r.origin u) here (subst (λ x. Edge s (r.origin u) (r.origin x)) (sym e) F.plain_edge))
      (λ B. never_apart nest P (earlier_apart (earlier_next nest P (subst (λ x. Chain r.parent (r.context x) B.from) e B.back_u)
      B.back_w B.next B.is_loop)))

  pub no_run_cycle : (x y : ℕ) → Path* (Derived s r) x y → Derived s r y x → ⊥
  no_run_cycle x y p D =
      no_self (rel_antisym D.tail_range D.head_range (sound S P D.tail_range (path_one D)) (sound S P D.head_range p)) D

  complete : {u w : ℕ} → u < r.v → w < r.v → Rel s r u w → Path* (Derived s r) u w
  complete {u} {w} hu hw R =
      let z = walk (Derived s r) (λ x. (x < r.v) × Rel s r u x) (λ x. x ≡ u) r.v no_run_cycle (λ x a. a.0)
      (λ x a. cases (cases_eq x u) inl (λ d.
      let b = predecessor hu a.0 (λ e. d (sym e)) a.1 in
      inr (b.0, b.1, (b.1.tail_range, b.2))))
      w (hw, R) in
      rw z.1 at z.3

-- and so for the edges that a conforming run lists
module _ {s : Spec} {r : Run} (S : Sealed s) (C : Conforms s r) where
  pub sound_listed : {u w : ℕ} → u < r.v → Path* (Listed r) u w → Rel s r u w
  sound_listed hu p = sound S C.placed hu (path_map (λ a b e. (C.exactly a b).0 e) p)

  pub complete_listed : {u w : ℕ} → u < r.v → w < r.v → Rel s r u w → Path* (Listed r) u w
  complete_listed hu hw R = path_map (λ a b e. (C.exactly a b).1 e) (complete S C.placed hu hw R)
