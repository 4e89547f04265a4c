-- Where two chains meet: at one place, under which they split, if they do. A derived edge is told from there.
use Rattle.std.proofs.Common.{◌≡◌, ℕ, ◌<◌, ◌≢◌, ◌↔◌, sym, ap, ◌∙◌, subst, arith}
use Rattle.model.specs.Forests.{Chain, up, Falls, Split}
use Rattle.model.specs.Specifications.{Spec, Domain}
use Rattle.model.specs.Runs.{Run, Placed, Plain, Back, Lasts, Firsts}
use Rattle.model.specs.Meetings.{Meets, PlainAt, BackAt}
use Rattle.model.specs.Relating.{Apart}
use Rattle.model.proofs.Cases.{cases}
use Rattle.model.proofs.Chains.{chain_le, chain_eq, chain_parent, chain_join, split_self, split_left, split_right, one_left, one_right}
use Rattle.model.proofs.Sealing.{far_chain, far_by_chain}
use Rattle.model.proofs.Copies.{maps, agree, same_or_apart, in_copy, copy_in, next_pos, mates_split, chain_range}

module _ {p : ℕ → ℕ} where
  pub meets_flip : {i j m a b : ℕ} → Meets p i j m a b → Meets p j i m b a
  meets_flip M = record {
    from_left = M.from_right;
    from_right = M.from_left;
    left_end = M.right_end;
    right_end = M.left_end;
    lowest = λ k c d. M.lowest k d c;
  }

  -- the meeting is in both chains

  pub meets_left : {i j m a b : ℕ} → Meets p i j m a b → Chain p i m
  meets_left M = cases M.left_end (λ x. chain_eq x.0) (λ x. chain_join M.from_left (up (chain_eq x.1)))

  pub meets_right : {i j m a b : ℕ} → Meets p i j m a b → Chain p j m
  meets_right M = meets_left (meets_flip M)

module _ {p : ℕ → ℕ} (f : Falls p) where
  -- what is in the chains of both i and j, i the higher number, is in the chain of the parent of i: so one walks up to the meeting
  pub common_up : {i j k : ℕ} → j < i → Chain p i k → Chain p j k → Chain p (p i) k
  common_up l c d = cases (chain_parent c) (λ e. absurd (omega (arith, l, e, chain_le f d))) (λ x. x)

  -- a child of the meeting in one chain is not in the other
  pub meets_below : {i j m a b : ℕ} → Meets p i j m a b → a ≢ m → ¬ (Chain p j a)
  meets_below {a = a} M d c = cases M.left_end (λ x. d x.1) λ x.
      omega (arith, chain_le f (M.lowest a M.from_left c), f.falls a x.0, x.1)

  -- where two chains split, it is by the children of the meeting
  pub meets_split : {i j m a b s t : ℕ} → Meets p i j m a b → Split p i j s t → s ≢ t → (s ≡ a) × (t ≡ b) × (a ≢ m) × (b ≢ m)
  meets_split {i} {j} {m} {a} {b} {s} {t} M x d =
      cases M.left_end (λ l. absurd (d (split_self f (split_left (rw (← l.0) at (meets_right M)) x)))) λ l.
      cases M.right_end (λ r. absurd (d (split_self f (split_right (rw (← r.0) at (meets_left M)) x)))) λ r.
      let y : Split p i j a b = record {
        left = M.from_left;
        right = M.from_right;
        left_pos = l.0;
        right_pos = r.0;
        same_parent = l.1 ∙ sym r.1;
      } in
      let da : a ≢ m = λ e. omega (arith, e, l.1, f.falls a l.0) in
      let db : b ≢ m = λ e. omega (arith, e, r.1, f.falls b r.0) in
      let dy : a ≢ b = λ e. meets_below M da (rw (← e) at M.from_right) in
      (one_left f x d y dy, one_right f x d y dy, da, db)

module _ {s : Spec} {r : Run} (N : Falls s.above) (P : Placed s r) {u w m a b : ℕ} (hu : u < r.v) (hw : w < r.v)
    (M : Meets r.parent (r.context u) (r.context w) m a b) where
  -- a copy in u's chain, of a block that holds both origins, is in the chain of the copy common to an edge of the first kind
  plain_over : {q : ℕ} (E : Plain s r u w) → Chain r.parent (r.context u) q → Domain s (r.block q) (r.origin w)
      → Chain r.parent E.common q
  plain_over {q} E c i = agree N P (P.context_range u hu) E.in_u c (far_chain N E.far (r.block q) (copy_in N P hu c) i)

  -- that copy is the meeting
  plain_common : (E : Plain s r u w) → E.common ≡ m
  plain_common E =
      let over = plain_over E (meets_left M) (copy_in N P hw (meets_right M)) in
      let below = M.lowest E.common E.in_u E.in_w in
      omega (arith, chain_le P.tree over, chain_le P.tree below)

  plain_forth : Plain s r u w → PlainAt s r u w m a b
  plain_forth E = record {
    spec_edge = E.plain_edge;
    no_group = λ g.
        let i : Domain s (r.block a) (r.origin w) = rw (← g.2) at (copy_in N P hw M.from_right) in
        meets_below P.tree M g.0 (chain_join E.in_w (plain_over E M.from_left i));
    lasts_left = subst (Lasts s r (r.context u)) (plain_common E) E.lasts;
    firsts_right = subst (Firsts s r (r.context w)) (plain_common E) E.firsts;
  }

  plain_back : PlainAt s r u w m a b → Plain s r u w
  plain_back E = record {
    plain_edge = E.spec_edge;
    common = m;
    far = far_by_chain N (copy_in N P hu (meets_left M)) (copy_in N P hw (meets_right M)) above;
    in_u = meets_left M;
    in_w = meets_right M;
    lasts = E.lasts_left;
    firsts = E.firsts_right;
  }
    where
      not_apart : ¬ (Apart r (r.context u) (r.context w))
      not_apart A =
          let x = meets_split P.tree M A.split A.differ in
          E.no_group (x.2, x.3, ap r.block (sym x.0) ∙ A.same_block ∙ ap r.block x.1)

      -- a block that holds both origins has a copy in both chains, and that is one copy
      above : (k : ℕ) → Domain s k (r.origin u) → Domain s k (r.origin w) → Chain s.above (r.block m) k
      above k i j =
          let q = in_copy N P hu i in
          let q' = in_copy N P hw j in
          cases (same_or_apart N P (P.context_range u hu) (P.context_range w hw) q.1 q'.1 (q.2 ∙ sym q'.2))
          (λ e. rw q.2 at (maps N P (chain_range N P (P.context_range u hu) (meets_left M)) (M.lowest q.0 q.1 (rw (← e) at q'.1))))
          (λ A. absurd (not_apart A))

  pub plain_meets : Plain s r u w ↔ PlainAt s r u w m a b
  plain_meets = (plain_forth, plain_back)

  back_forth : Back s r u w → BackAt s r u w m a b
  back_forth B =
      let x : Split r.parent (r.context u) (r.context w) B.from B.to
      = mates_split B.back_u B.back_w (next_pos N P B.next) B.next.mate in
      let e = meets_split P.tree M x (λ e. omega (arith, e, B.next.later)) in
      record {
        under_left = e.2;
        under_right = e.3;
        turn_loop = rw e.0 at B.is_loop;
        turn_sink = rw e.0 at B.from_sink;
        turn_source = rw e.0 at B.to_source;
        turns = rw (e.0, e.1) at B.next;
        lasts_left = subst (Lasts s r (r.context u)) e.0 B.back_lasts;
        firsts_right = subst (Firsts s r (r.context w)) e.1 B.back_firsts;
      }

  back_back : BackAt s r u w m a b → Back s r u w
  back_back B = record {
    from = a;
    to = b;
    is_loop = B.turn_loop;
    from_sink = B.turn_sink;
    to_source = B.turn_source;
    back_u = M.from_left;
    back_w = M.from_right;
    next = B.turns;
    back_lasts = B.lasts_left;
    back_firsts = B.firsts_right;
  }

  pub back_meets : Back s r u w ↔ BackAt s r u w m a b
  back_meets = (back_forth, back_back)
