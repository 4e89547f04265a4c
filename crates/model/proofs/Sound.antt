-- A path of derived edges leads only where the relation of contexts and origins holds: by induction on the path, an edge at a time.
use Rattle.std.proofs.Common.{◌≡◌, ℕ, ◌<◌, sym, ap, ◌∙◌, inl, inr, arith}
use Rattle.model.specs.Paths.{Path*, here, step}
use Rattle.model.specs.Forests.{Chain, stop, up, Falls}
use Rattle.model.specs.Specifications.{Spec, Edge, Domain, KeepsLoopRule, Sealed}
use Rattle.model.specs.Runs.{Run, Placed, Mate, Plain, Back, Derived}
use Rattle.model.specs.Relating.{Apart, Earlier, Rel}
use Rattle.model.proofs.Cases.{cases}
use Rattle.model.proofs.Chains.{chain_eq, chain_parent, chain_join, comparable, over}
use Rattle.model.proofs.Sealing.{in_or, leaves, to_sink, enters_at_source, no_way_back, far_chain}
use Rattle.model.proofs.Copies.{chain_range, maps, unique, agree, same_or_apart, in_copy, copy_in, block_pos, copy_range, next_pos, apart_as, earlier_as, earlier_next, mates_earlier, never_apart}

module _ {s : Spec} {r : Run} (S : Sealed s) (P : Placed s r) where
  nest : Falls s.above
  nest = S.ranges.nest

  pub loop_of : {q : ℕ} → q < r.c → 0 < q → s.kind (r.block q) ≡ 2 → KeepsLoopRule s (r.block q)
  loop_of {q} h z k = S.loops (r.block q) (block_pos nest P z h) (copy_range nest P h z) k

  -- the copy t of a block that holds both ends of an edge of the first kind: in one chain, and so in the other

  plain_right : {v w t : ℕ} → v < r.v → w < r.v → Plain s r v w → Chain r.parent (r.context w) t → Domain s (r.block t) (r.origin v)
      → Chain r.parent (r.context v) t
  plain_right {v} {w} {t} hv hw F c i =
      chain_join F.in_u (agree nest P (P.context_range w hw) F.in_w c (far_chain nest F.far (r.block t) i (copy_in nest P hw c)))

  plain_left : {v w t : ℕ} → v < r.v → w < r.v → Plain s r v w → Chain r.parent (r.context v) t → Domain s (r.block t) (r.origin w)
      → Chain r.parent (r.context w) t
  plain_left {v} {w} {t} hv hw F c i =
      chain_join F.in_w (agree nest P (P.context_range v hv) F.in_u c (far_chain nest F.far (r.block t) (copy_in nest P hv c) i))

  -- an origin in one of two copies of a group lies in the domain of their block
  apart_in : {u j : ℕ} → u < r.v → (A : Apart r (r.context u) j) → Domain s (r.block A.t) (r.origin u)
  apart_in hu A = rw A.same_block at (copy_in nest P hu A.split.left)

  module _ {u v w : ℕ} (hu : u < r.v) (hv : v < r.v) (hw : w < r.v) where
    -- u is in an earlier turn than v, and an edge of the first kind leads on to w: within the loop, and then w is in that turn too, or out
    -- of it, past the loop's sink, to which u's origin leads
    earlier_plain : Earlier s r (r.context u) (r.context v) → Plain s r v w → Rel s r u w
    earlier_plain E F = cases (in_or S (r.block E.et) (r.origin w))
        (λ z_in. inl (earlier_as E E.esplit.left (plain_left hv hw F jt z_in)))
        (λ z_out. inr (
          out z_out,
          step (rw (← leaves S L F.plain_edge y_in z_out) at (to_sink S L (P.origin_range u hu) x_in)) F.plain_edge,
        ))
      where
        jt : Chain r.parent (r.context v) E.et
        jt = E.esplit.right

        ht : E.et < r.c
        ht = chain_range nest P (P.context_range v hv) jt

        y_in : Domain s (r.block E.et) (r.origin v)
        y_in = copy_in nest P hv jt

        x_in : Domain s (r.block E.et) (r.origin u)
        x_in = rw E.eblock at (copy_in nest P hu E.esplit.left)

        L : KeepsLoopRule s (r.block E.et)
        L = loop_of ht E.esplit.right_pos (rw E.eblock at E.eloop)

        -- copies in which u and w were apart would stand above the loop, where the chains of u and v are one
        out : (¬ (Domain s (r.block E.et) (r.origin w))) → ¬ (Apart r (r.context u) (r.context w))
        out z_out A = cases (comparable x_in (apart_in hu A))
            (λ k. cases (chain_parent k) (λ e. z_out (rw (← e) at z_in)) (λ k'.
            let jA : Chain r.parent (r.context v) A.t = plain_right hv hw F A.split.right (chain_join y_in k) in
            let above : Chain r.parent (r.parent E.et) A.t
            = agree nest P (P.context_range v hv) (chain_join jt (up stop)) jA (rw (P.follows E.et ht) k') in
            A.differ (unique nest P (P.context_range u hu) A.split.left (over E.esplit.left E.esplit.same_parent above) A.same_block)))
            (λ k. z_out (chain_join z_in k))
          where
            z_in : Domain s (r.block A.t) (r.origin w)
            z_in = copy_in nest P hw A.split.right

    -- u is in an earlier turn than v, and an edge of the second kind leads on to w: the upper of the two loops decides
    earlier_back : Earlier s r (r.context u) (r.context v) → Back s r v w → Rel s r u w
    earlier_back E B = inl (cases (comparable E.esplit.right B.back_u)
        (λ k. cases (chain_parent k)
        (λ e. meets e)
        (λ k'. earlier_next nest P (over E.esplit.left E.esplit.same_parent k') B.back_w B.next B.is_loop))
        (λ k. cases (chain_parent k)
        (λ e. meets (sym e))
        (λ k'. earlier_as E E.esplit.left (over B.back_w B.next.mate.one_parent k'))))
      where
        meets : E.et ≡ B.from → Earlier s r (r.context u) (r.context w)
        meets e = mates_earlier E.esplit.left B.back_w E.esplit.left_pos m (omega (arith, E.eless, B.next.later, e)) E.eloop
          where
            m : Mate r E.es B.to
            m = record {
              exists = B.next.mate.exists;
              not_zero = B.next.mate.not_zero;
              one_parent = B.next.mate.one_parent ∙ ap r.parent (sym e) ∙ sym E.esplit.same_parent;
              one_block = B.next.mate.one_block ∙ ap r.block (sym e) ∙ sym E.eblock;
            }

    -- u and v are not apart, and an edge of the first kind leads on to w: were u and w apart, v were in the one copy too, or the path had
    -- left the block and come back in
    path_plain : (¬ (Apart r (r.context u) (r.context v))) → Path* (Edge s) (r.origin u) (r.origin v) → Plain s r v w → Rel s r u w
    path_plain f p F = inr (apart_not, step p F.plain_edge)
      where
        apart_not : ¬ (Apart r (r.context u) (r.context w))
        apart_not A = cases (in_or S (r.block A.t) (r.origin v))
            (λ y_in. f (apart_as A A.split.left (plain_right hv hw F A.split.right y_in)))
            (λ y_out. no_way_back S (block_pos nest P A.split.right_pos (chain_range nest P (P.context_range w hw) A.split.right))
            (P.origin_range u hu) (apart_in hu A) p y_out F.plain_edge (copy_in nest P hw A.split.right))

    -- u and v are not apart, and an edge of the second kind leads on to w: u is in that turn of the loop, and so earlier than w, or its
    -- origin lies outside and leads to the loop's source
    path_back : (¬ (Apart r (r.context u) (r.context v))) → Path* (Edge s) (r.origin u) (r.origin v) → Back s r v w → Rel s r u w
    path_back f p B = cases (in_or S (r.block B.from) (r.origin u))
        (λ x_in.
        let q = in_copy nest P hu x_in in
        cases (same_or_apart nest P (P.context_range u hu) (P.context_range v hv) q.1 B.back_u q.2)
        (λ e. inl (earlier_next nest P (rw e at q.1) B.back_w B.next B.is_loop))
        (λ A. absurd (f A)))
        (λ x_out. inr (apart_not x_out, rw B.to_source (enters_at_source S L x_out p (copy_in nest P hv B.back_u))))
      where
        L : KeepsLoopRule s (r.block B.from)
        L = loop_of (chain_range nest P (P.context_range v hv) B.back_u) (next_pos nest P B.next) B.is_loop

        within : (A : Apart r (r.context u) (r.context w)) → Chain r.parent A.t B.to → Domain s (r.block B.from) (r.origin u)
        within A k =
            let below : Chain s.above (r.block A.t) (r.block B.to)
            = maps nest P (chain_range nest P (P.context_range w hw) A.split.right) k in
            rw B.next.mate.one_block at (chain_join (apart_in hu A) below)

        apart_not : (¬ (Domain s (r.block B.from) (r.origin u))) → ¬ (Apart r (r.context u) (r.context w))
        apart_not x_out A = cases (comparable A.split.right B.back_w)
            (λ k. x_out (within A k))
            (λ k. cases (chain_parent k)
            (λ e. x_out (within A (chain_eq (sym e))))
            (λ k'. f (apart_as A A.split.left (over B.back_u (sym B.next.mate.one_parent) k'))))

  rel_step : {u v w : ℕ} → u < r.v → Rel s r u v → Derived s r v w → Rel s r u w
  rel_step hu (inl E) D = cases D.way
      (earlier_plain hu D.tail_range D.head_range E)
      (earlier_back hu D.tail_range D.head_range E)
  rel_step hu (inr N) D = cases D.way
      (path_plain hu D.tail_range D.head_range N.0 N.1)
      (path_back hu D.tail_range D.head_range N.0 N.1)

  -- a path of derived edges gives the relation
  pub sound : {u w : ℕ} → u < r.v → Path* (Derived s r) u w → Rel s r u w
  sound hu here = inr (never_apart nest P, here)
  sound hu (step p D) = rel_step hu (sound hu p) D
