-- Placed runs; the copies in a chain and their blocks: which copy of a block a chain holds, and where two chains hold different ones.
use Rattle.std.proofs.Common.{◌≡◌, ℕ, zero, suc, ◌<◌, ◌≤◌, ◌≢◌, ◌⊎◌, sym, refl, ap, ◌∙◌, inl, inr, arith}
use Rattle.model.specs.Forests.{Chain, stop, up, Falls, Split}
use Rattle.model.specs.Specifications.{Spec, Domain}
use Rattle.model.specs.Runs.{Run, Placed, Mate, Next}
use Rattle.model.specs.Relating.{Apart, Earlier}
use Rattle.std.proofs.lemmas.Bool.{cases_eq}
use Rattle.model.proofs.Cases.{cases, zero_or}
use Rattle.model.proofs.Chains.{chain_le, chain_parent, chain_join, comparable, split_self, split_flip}

module _ {r : Run} where
  pub apart_flip : {i j : ℕ} → Apart r i j → Apart r j i
  apart_flip A = record { s = A.t; t = A.s; split = split_flip A.split; same_block = sym A.same_block; differ = λ e. A.differ (sym e) }

  -- chains that hold the same two copies are apart too
  pub apart_as : {i j i' j' : ℕ} (A : Apart r i j) → Chain r.parent i' A.s → Chain r.parent j' A.t → Apart r i' j'
  apart_as {i} {j} {i'} {j'} A c d = record { s = A.s; t = A.t; split = x; same_block = A.same_block; differ = A.differ }
    where
      x : Split r.parent i' j' A.s A.t
      x = record { left = c; right = d; left_pos = A.split.left_pos; right_pos = A.split.right_pos; same_parent = A.split.same_parent }

  -- a split by two copies of one group
  pub mates_split : {i j a b : ℕ} → Chain r.parent i a → Chain r.parent j b → 0 < a → Mate r a b → Split r.parent i j a b
  mates_split c d z m = record { left = c; right = d; left_pos = z; right_pos = m.not_zero; same_parent = sym m.one_parent }

  pub mates_apart : {i j a b : ℕ} → Chain r.parent i a → Chain r.parent j b → 0 < a → Mate r a b → a ≢ b → Apart r i j
  mates_apart {a = a} {b = b} c d z m g = record { s = a; t = b; split = mates_split c d z m; same_block = sym m.one_block; differ = g }

module _ {s : Spec} {r : Run} where
  pub earlier_apart : {i j : ℕ} → Earlier s r i j → Apart r i j
  earlier_apart E = record { s = E.es; t = E.et; split = E.esplit; same_block = E.eblock; differ = λ e. omega (arith, e, E.eless) }

  -- what holds the same two loop copies is earlier too
  pub earlier_as : {i j i' j' : ℕ} (E : Earlier s r i j) → Chain r.parent i' E.es → Chain r.parent j' E.et → Earlier s r i' j'
  earlier_as {i} {j} {i'} {j'} E c d = record { es = E.es; et = E.et; esplit = x; eblock = E.eblock; eless = E.eless; eloop = E.eloop }
    where
      x : Split r.parent i' j' E.es E.et
      x = record { left = c; right = d; left_pos = E.esplit.left_pos; right_pos = E.esplit.right_pos; same_parent = E.esplit.same_parent }

  pub mates_earlier : {i j a b : ℕ} → Chain r.parent i a → Chain r.parent j b → 0 < a → Mate r a b → a < b
      → s.kind (r.block a) ≡ 2 → Earlier s r i j
  mates_earlier {a = a} {b = b} c d z m l k =
      record { es = a; et = b; esplit = mates_split c d z m; eblock = sym m.one_block; eless = l; eloop = k }

module _ {s : Spec} {r : Run} (N : Falls s.above) (P : Placed s r) where
  pub chain_range : {i j : ℕ} → i < r.c → Chain r.parent i j → j < r.c
  chain_range h c = omega (arith, chain_le P.tree c)

  -- the chain of a copy goes with the chain of its block
  pub maps : {i j : ℕ} → i < r.c → Chain r.parent i j → Chain s.above (r.block i) (r.block j)
  maps h stop = stop
  maps {i} h (up c) = up (rw (P.follows i h) at (maps (chain_range h (up stop)) c))

  -- the copy of block k in the chain of i
  copy_of : {i k : ℕ} → i < r.c → Chain s.above (r.block i) k → (q : ℕ) × Chain r.parent i q × (r.block q ≡ k)
  copy_of {i} {k} h c = go c i h refl
    where
      go : {b : ℕ} → Chain s.above b k → (i : ℕ) → i < r.c → r.block i ≡ b → (q : ℕ) × Chain r.parent i q × (r.block q ≡ k)
      go stop i h e = (i, stop, e)
      go (up c) i h e =
          let w = go c (r.parent i) (chain_range h (up stop)) (P.follows i h ∙ ap s.above e) in
          (w.0, up w.1, w.2)

  pub pos_of_block : {q : ℕ} → 0 < r.block q → 0 < q
  pos_of_block {q} h = cases (zero_or q) (λ e. absurd (omega (arith, ap r.block e, P.block_zero))) (λ x. x)

  pub block_pos : {q : ℕ} → 0 < q → q < r.c → 0 < r.block q
  block_pos {q} h l = (P.block_range q h l).0

  pub copy_range : {q : ℕ} → q < r.c → 0 < q → r.block q < s.b
  copy_range {q} h z = (P.block_range q z h).1

  -- only copy 0 is of block 0
  whole_copy : {q : ℕ} → q < r.c → r.block q ≡ 0 → q ≡ 0
  whole_copy {q} h e = cases (zero_or q) (λ z. z) (λ z. absurd (omega (arith, block_pos z h)))

  unique_le : (q : ℕ) {q' : ℕ} → q < r.c → Chain r.parent q q' → r.block q ≡ r.block q' → q ≡ q'
  unique_le zero h c e = omega (arith, chain_le P.tree c)
  unique_le (suc q) h c e = cases (chain_parent c) (λ x. x) λ x.
      absurd (omega (
        arith,
        N.falls (r.block (suc q)) (block_pos (omega arith) h),
        e,
        P.follows (suc q) h,
        chain_le N (maps (chain_range h (up stop)) x),
      ))

  -- a chain has one copy of a block
  pub unique : {i q q' : ℕ} → i < r.c → Chain r.parent i q → Chain r.parent i q' → r.block q ≡ r.block q' → q ≡ q'
  unique h c d e = cases (comparable c d)
      (λ x. unique_le _ (chain_range h c) x e)
      (λ x. sym (unique_le _ (chain_range h d) x (sym e)))

  -- in one chain, copies stand as their blocks do
  pub agree : {i d q : ℕ} → i < r.c → Chain r.parent i d → Chain r.parent i q → Chain s.above (r.block d) (r.block q)
      → Chain r.parent d q
  agree h cd cq b =
      let w = copy_of (chain_range h cd) b in
      rw (unique h (chain_join cd w.1) cq w.2) at w.1

  -- two chains hold one copy of a block, or they are apart: going up, the parents are one copy, or the chains are apart already
  pub same_or_apart : {i j q q' : ℕ} → i < r.c → j < r.c → Chain r.parent i q → Chain r.parent j q' → r.block q ≡ r.block q'
      → (q ≡ q') ⊎ Apart r i j
  same_or_apart {i} {j} {q} hi hj = go q (omega arith)
    where
      whole : {q q' : ℕ} → q ≡ 0 → Chain r.parent j q' → r.block q ≡ r.block q' → q ≡ q'
      whole z d e = z ∙ sym (whole_copy (chain_range hj d) (sym e ∙ ap r.block z ∙ P.block_zero))

      siblings : {q q' : ℕ} → 0 < q → Chain r.parent i q → Chain r.parent j q' → r.block q ≡ r.block q'
          → r.parent q ≡ r.parent q' → (q ≡ q') ⊎ Apart r i j
      siblings {q} {q'} z c d e x = cases (cases_eq q q') inl λ y.
          let z' : 0 < q' = pos_of_block (omega (arith, block_pos z (chain_range hi c), e)) in
          inr (record {
            s = q;
            t = q';
            split = record { left = c; right = d; left_pos = z; right_pos = z'; same_parent = x };
            same_block = e;
            differ = y;
          })

      go : (m : ℕ) {q q' : ℕ} → q ≤ m → Chain r.parent i q → Chain r.parent j q' → r.block q ≡ r.block q' → (q ≡ q') ⊎ Apart r i j
      go zero l c d e = inl (whole (omega arith) d e)
      go (suc m) {q} {q'} l c d e = cases (zero_or q) (λ z. inl (whole z d e)) λ z.
          let blocks : r.block (r.parent q) ≡ r.block (r.parent q')
          = P.follows q (chain_range hi c) ∙ ap s.above e ∙ sym (P.follows q' (chain_range hj d)) in
          cases (go m (omega (arith, P.tree.falls q z)) (chain_join c (up stop)) (chain_join d (up stop)) blocks) (siblings z c d e) inr

  -- a step's origin lies in the domains of the blocks in its context's chain, and in no other
  pub in_copy : {u k : ℕ} → u < r.v → Domain s k (r.origin u) → (q : ℕ) × Chain r.parent (r.context u) q × (r.block q ≡ k)
  in_copy {u} h i = copy_of (P.context_range u h) (rw (P.at_home u h) at i)

  pub copy_in : {u q : ℕ} → u < r.v → Chain r.parent (r.context u) q → Domain s (r.block q) (r.origin u)
  copy_in {u} h c = rw (P.at_home u h) (maps (P.context_range u h) c)

  pub next_pos : {q q' : ℕ} → Next r q q' → 0 < q
  next_pos {q} {q'} h = pos_of_block (omega (arith, h.mate.one_block, block_pos h.mate.not_zero h.mate.exists))

  -- from one turn of a loop to the next
  pub earlier_next : {i j q q' : ℕ} → Chain r.parent i q → Chain r.parent j q' → Next r q q' → s.kind (r.block q) ≡ 2 → Earlier s r i j
  earlier_next c d n k = mates_earlier c d (next_pos n) n.mate n.later k

  pub never_apart : {i : ℕ} → ¬ (Apart r i i)
  never_apart A = A.differ (split_self P.tree A.split)
