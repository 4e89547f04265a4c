-- A run that grew: its copies come in the same order as their counterparts, so two labels compare as those of the counterparts do.
use Rattle.std.proofs.Common.{◌≡◌, ℕ, ◌<◌, Bool, true, false, ◌↔◌, sym, ap, ◌∙◌, subst, inl, inr, arith}
use Rattle.model.specs.Paths.{Path*}
use Rattle.model.specs.Forests.{Chain, stop, up, Falls, Split}
use Rattle.model.specs.Specifications.{Edge, Spec}
use Rattle.model.specs.Runs.{Run, Placed}
use Rattle.model.specs.Orders.{order1, order2, order3, Turned, Before, Position}
use Rattle.model.specs.Labels.{Label, Labelled}
use Rattle.model.specs.Laws.{Grown}
use Rattle.model.proofs.Answering.{Alike, As}
use Rattle.model.proofs.Cases.{cases}
use Rattle.model.proofs.Copies.{chain_range, block_pos, pos_of_block}
use Rattle.model.proofs.Orders.{branch, before_never, before_join, before_total, position_less, position_back}

module _ {s : Spec} {r r' : Run} {f g : ℕ → ℕ} (N : Falls s.above) (P : Placed s r) (P' : Placed s r') (G : Grown r r' f g) where
  chain_there : {i j : ℕ} → i < r.c → Chain r.parent i j → Chain r'.parent (f i) (f j)
  chain_there h stop = stop
  chain_there {i} h (up c) = up (rw (G.keeps_parent i h) (chain_there (chain_range N P h (up stop)) c))

  pos_there : {i : ℕ} → i < r.c → 0 < i → 0 < f i
  pos_there {i} h z = pos_of_block N P' (omega (arith, block_pos N P z h, G.keeps_block i h))

  split_there : {i j s' t' : ℕ} → i < r.c → j < r.c → Split r.parent i j s' t' → Split r'.parent (f i) (f j) (f s') (f t')
  split_there {i} {j} {s'} {t'} hi hj x =
      let hs = chain_range N P hi x.left in
      let ht = chain_range N P hj x.right in
      record {
        left = chain_there hi x.left;
        right = chain_there hj x.right;
        left_pos = pos_there hs x.left_pos;
        right_pos = pos_there ht x.right_pos;
        same_parent = G.keeps_parent s' hs ∙ ap f x.same_parent ∙ sym (G.keeps_parent t' ht);
      }

  turned_there : (b : Bool) (s' t' : ℕ) → (s' < t' → f s' < f t') → (t' < s' → f t' < f s') → Turned b s' t' → Turned b (f s') (f t')
  turned_there true s' t' p q h = q h
  turned_there false s' t' p q h = p h

  module _ (o : ℕ → Bool) where
    before_there : {i j : ℕ} → i < r.c → j < r.c → Before s r o i j → Before s r' o (f i) (f j)
    before_there {i} {j} hi hj (inl h) = inl (chain_there hj h.0, λ e. h.1 (G.own_copy i j hi hj e))
    before_there {i} {j} hi hj (inr b) =
        let x = b.bsplit in
        let hs : b.bs < r.c = chain_range N P hi x.left in
        let ht : b.bt < r.c = chain_range N P hj x.right in
        let es = G.keeps_block b.bs hs in
        let et = G.keeps_block b.bt ht in
        branch s r' o (split_there hi hj x) (cases b.sooner
        (λ l. inl (omega (arith, l, es, et)))
        (λ l. inr (
          es ∙ l.0 ∙ sym et,
          subst (λ k. Turned (o (s.kind k)) (f b.bs) (f b.bt)) (sym es)
              (turned_there (o (s.kind (r.block b.bs))) b.bs b.bt
              (G.keeps_order b.bs b.bt hs ht x.left_pos x.right_pos x.same_parent l.0)
              (G.keeps_order b.bt b.bs ht hs x.right_pos x.left_pos (sym x.same_parent) (sym l.0))
              l.1),
        )))

    before_here : {i j : ℕ} → i < r.c → j < r.c → Before s r' o (f i) (f j) → Before s r o i j
    before_here {i} {j} hi hj b = cases (before_total s r o P.tree i j)
        (λ e. absurd (before_never s r' o P'.tree (f i) (subst (λ x. Before s r' o (f i) (f x)) (sym e) b)))
        (λ x. cases x (λ y. y) λ y.
        let round : Before s r' o (f i) (f i) = before_join s r' o P'.tree (f i) (f j) (f i) b (before_there hj hi y) in
        absurd (before_never s r' o P'.tree (f i) round))

    half : {i j q p q' p' : ℕ} → i < r.c → j < r.c → Position s r o i q → Position s r o j p
        → Position s r' o (f i) q' → Position s r' o (f j) p' → (q < p) ↔ (q' < p')
    half {i} {j} {q} {p} {q'} {p'} hi hj a b a' b' = (
      (λ l.
          let x : Before s r o i j = position_back s r o P.tree i j q p hi hj a b l in
          position_less s r' o P'.tree (f i) (f j) q' p' (G.copy_there i hi) a' b' (before_there hi hj x)),
      (λ l.
          let x : Before s r' o (f i) (f j) = position_back s r' o P'.tree (f i) (f j) q' p' (G.copy_there i hi) (G.copy_there j hj) a' b' l in
          position_less s r o P.tree i j q p hi a b (before_here hi hj x)),
    )

    alike : {u w q p q' p' : ℕ} → u < r.v → w < r.v → Position s r o (r.context u) q → Position s r o (r.context w) p
        → Position s r' o (r'.context (g u)) q' → Position s r' o (r'.context (g w)) p' → Alike q p q' p'
    alike {u} {w} {q} {p} {q'} {p'} hu hw a b a' b' =
        let hi = P.context_range u hu in
        let hj = P.context_range w hw in
        let a'' : Position s r' o (f (r.context u)) q' = subst (λ x. Position s r' o x q') (G.keeps_context u hu) a' in
        let b'' : Position s r' o (f (r.context w)) p' = subst (λ x. Position s r' o x p') (G.keeps_context w hw) b' in
        (half hi hj a b a'' b'', half hj hi b a b'' a'')

  pub grown : {u w : ℕ} → u < r.v → w < r.v → {A B A' B' : Label} → Labelled s r u A → Labelled s r w B
      → Labelled s r' (g u) A' → Labelled s r' (g w) B' → As A B A' B'
  grown {u} {w} hu hw a b a' b' = record {
    as1 = alike order1 hu hw a.at1 b.at1 a'.at1 b'.at1;
    as2 = alike order2 hu hw a.at2 b.at2 a'.at2 b'.at2;
    as3 = alike order3 hu hw a.at3 b.at3 a'.at3 b'.at3;
    as_left = a.is_vertex ∙ sym (G.keeps_origin u hu) ∙ sym a'.is_vertex;
    as_right = b.is_vertex ∙ sym (G.keeps_origin w hw) ∙ sym b'.is_vertex;
  }

pub same_reach : (s : Spec) {x x' y y' : ℕ} → x ≡ x' → y ≡ y' → Path* (Edge s) x y ↔ Path* (Edge s) x' y'
same_reach s p q = ((λ h. rw (p, q) at h), λ h. rw (← p, ← q) at h)
