-- Steps below a copy: from a copy down to a given vertex by last loop copies, and the same with the chain of another copy followed as far as
-- it goes. The tails of derived edges are found so.
use Rattle.std.proofs.Common.{◌≡◌, ℕ, zero, suc, ◌+◌, ◌<◌, ◌≤◌, ◌⊎◌, sym, ap, ◌∙◌, inl, inr, arith}
use Rattle.model.specs.Forests.{Chain, up, Falls}
use Rattle.model.specs.Specifications.{Spec, Domain, Sealed}
use Rattle.model.specs.Runs.{Run, Placed, Last, Lasts}
use Rattle.model.specs.Relating.{Apart, Earlier}
use Rattle.std.proofs.lemmas.Bool.{cases_eq}
use Rattle.model.proofs.Cases.{cases}
use Rattle.model.proofs.Chains.{chain_le, chain_eq, chain_parent, chain_child, chain_join, child_pos, comparable, no_rung_twice, split_self, split_right, above_split}
use Rattle.model.proofs.Sealing.{in_range}
use Rattle.model.proofs.Copies.{chain_range, mates_earlier}
use Rattle.model.proofs.Groups.{last_of, alls_self, mate_turn}

-- the step v has origin y and stands below the copy d, by last loop copies
pub record Lands (s : Spec) (r : Run) (d y v : ℕ) : Type 0 where
  pub land_range : v < r.v
  pub land_origin : r.origin v ≡ y
  pub land_below : Chain r.parent (r.context v) d
  pub land_lasts : Lasts s r (r.context v) d

module _ {s : Spec} {r : Run} (S : Sealed s) (P : Placed s r) where
  nest : Falls s.above
  nest = S.ranges.nest

  -- a step below e is a step below its parent, where e, if a loop copy, is the last of its group
  lower : {d e y v : ℕ} → r.parent e ≡ d → (s.kind (r.block e) ≡ 2 → Last r e) → Lands s r e y v → Lands s r d y v
  lower {d} {e} {y} {v} q f l = record {
    land_range = l.land_range;
    land_origin = l.land_origin;
    land_below = chain_join l.land_below (up (chain_eq q));
    land_lasts = λ t a b g k. cases (comparable a l.land_below)
        (λ c. cases (cases_eq t e) (λ x. rw (← x) at (f (rw x at k))) (λ x. l.land_lasts t a c x k))
        (λ c. cases (chain_parent c)
        (λ x. rw x at (f (rw (← x) at k)))
        (λ x. absurd (g (omega (arith, chain_le P.tree x, chain_le P.tree b, q)))));
  }

  land_here : (d y : ℕ) → d < r.c → y < s.n → s.home y ≡ r.block d → (v : ℕ) × Lands s r d y v × (r.context v ≡ d)
  land_here d y hd hy e =
      let u = P.one_step d y hd hy e in (
        u.0,
        record { land_range = u.1; land_origin = u.3; land_below = chain_eq u.2; land_lasts = alls_self s r (Last r) P.tree u.2 },
        u.2,
      )

  -- the block on the way from the block of d down to the home of y
  record Way (d y : ℕ) : Type 0 where
    way_k : ℕ
    way_in : Domain s way_k y
    way_above : s.above way_k ≡ r.block d
    way_pos : 0 < way_k
    way_range : way_k < s.b
    way_nearer : r.block d < way_k

  way_of : (d y : ℕ) → y < s.n → Domain s (r.block d) y → (s.home y ≡ r.block d) ⊎ Way d y
  way_of d y hy i = cases (chain_child i) inl λ k.
      let z : 0 < k.0 = child_pos nest k.2 k.3 in
      inr (record {
        way_k = k.0;
        way_in = k.1;
        way_above = k.2;
        way_pos = z;
        way_range = in_range S k.1 hy;
        way_nearer = omega (arith, nest.falls k.0 z, k.2);
      })

  -- the home of y has the highest number on the way down to it
  way_ends : {d y : ℕ} (w : Way d y) → s.home y ≤ r.block d → ⊥
  way_ends w l = omega (arith, w.way_nearer, chain_le nest w.way_in)

  -- the last copy of block k under d
  record End (d k : ℕ) : Type 0 where
    end : ℕ
    end_range : end < r.c
    end_pos : 0 < end
    end_parent : r.parent end ≡ d
    end_block : r.block end ≡ k
    end_last : Last r end

  end_of : {d y : ℕ} (w : Way d y) → d < r.c → End d w.way_k
  end_of {d} w hd =
      let j = P.children d w.way_k hd w.way_pos w.way_range w.way_above in
      let e = last_of j.0 j.1 j.2 in
      record {
        end = e.0;
        end_range = e.1.exists;
        end_pos = e.1.not_zero;
        end_parent = e.1.one_parent ∙ j.3;
        end_block = e.1.one_block ∙ j.4;
        end_last = e.2;
      }

  -- down to y by last copies
  pub descend : (d y : ℕ) → d < r.c → y < s.n → Domain s (r.block d) y → (v : ℕ) × Lands s r d y v
  descend d y hd hy i = go (s.home y) d hd i (omega arith)
    where
      home : (d : ℕ) → d < r.c → s.home y ≡ r.block d → (v : ℕ) × Lands s r d y v
      home d hd e = let u = land_here d y hd hy e in (u.0, u.1)

      go : (m d : ℕ) → d < r.c → Domain s (r.block d) y → s.home y ≤ r.block d + m → (v : ℕ) × Lands s r d y v
      go zero d hd i l = cases (way_of d y hy i) (home d hd) (λ w. absurd (way_ends w (omega arith)))
      go (suc m) d hd i l = cases (way_of d y hy i) (home d hd) λ w.
          let e = end_of w hd in
          let u = go m e.end e.end_range (rw e.end_block w.way_in) (omega (arith, e.end_block, w.way_nearer)) in
          (u.0, lower e.end_parent (λ k. e.end_last) u.1)

  -- the same, following the chain of i: from i's copies the step is not apart, or later
  abbrev Follows : ℕ → ℕ → ℕ → Type 0
  Follows d y i = (v : ℕ) × Lands s r d y v × ((¬ (Apart r i (r.context v))) ⊎ Earlier s r i (r.context v))

  follow_home : (d y i : ℕ) → d < r.c → y < s.n → s.home y ≡ r.block d → Chain r.parent i d → Follows d y i
  follow_home d y i hd hy e id =
      let u = land_here d y hd hy e in
      (u.0, u.1, inl (λ A. A.differ (split_self P.tree (split_right (chain_join id (chain_eq (sym u.2))) A.split))))

  -- the chain of i ends at d, or goes on to another block: go down by last copies
  follow_fresh : {d y i : ℕ} → d < r.c → y < s.n → (w : Way d y) → Chain r.parent i d
      → ((q : ℕ) → Chain r.parent i q → 0 < q → r.parent q ≡ d → r.block q ≡ w.way_k → ⊥) → Follows d y i
  follow_fresh {d} {y} {i} hd hy w id none = (u.0, lower e.end_parent (λ x. e.end_last) u.1, inl near)
    where
      e : End d w.way_k
      e = end_of w hd

      u : (v : ℕ) × Lands s r e.end y v
      u = descend e.end y e.end_range hy (rw e.end_block w.way_in)

      near : ¬ (Apart r i (r.context u.0))
      near A = cases (above_split P.tree A.split u.1.land_below)
          (λ c. cases (chain_parent c)
          (λ q. none A.s A.split.left A.split.left_pos
          (A.split.same_parent ∙ ap r.parent (sym q) ∙ e.end_parent)
          (A.same_block ∙ ap r.block (sym q) ∙ e.end_block))
          (λ c'. A.differ (no_rung_twice P.tree A.split.left (chain_join id (rw e.end_parent at c'))
          A.split.left_pos A.split.right_pos A.split.same_parent)))
          (λ c. none e.end c e.end_pos e.end_parent e.end_block)

  -- The chain of i goes on to a copy q of the block on the way. Of a fork, go on from q; of a loop, from the last copy of the group, which is
  -- q or a later turn.
  follow_down : {d y i q : ℕ} → q < r.c → y < s.n → (w : Way d y) → Chain r.parent i q → 0 < q → r.parent q ≡ d → r.block q ≡ w.way_k
      → Follows q y i → Follows d y i
  follow_down {d} {y} {i} {q} hq hy w iq z qd e on = cases (S.ranges.kinds w.way_k w.way_pos w.way_range) fork loop
    where
      fork : s.kind w.way_k ≡ 1 → Follows d y i
      fork k = (on.0, lower qd (λ k'. absurd (omega (arith, k, k', ap s.kind e))) on.1, on.2)

      loop : s.kind w.way_k ≡ 2 → Follows d y i
      loop k =
          let b = last_of {r = r} q hq z in
          cases (cases_eq b.0 q)
          (λ x. (on.0, lower qd (λ k'. rw x at b.2) on.1, on.2))
          (λ x.
          let u = descend b.0 y b.1.exists hy (rw (b.1.one_block ∙ e) w.way_in) in
          let l : q < b.0 = omega (arith, x, b.2 q (mate_turn hq z b.1)) in
          (u.0, lower (b.1.one_parent ∙ qd) (λ k'. b.2) u.1, inr (mates_earlier iq u.1.land_below z b.1 l (ap s.kind e ∙ k))))

  pub follow : (d y i : ℕ) → i < r.c → Chain r.parent i d → y < s.n → Domain s (r.block d) y → Follows d y i
  follow d y i hi id hy y_in = go (s.home y) d id y_in (omega arith)
    where
      range : {d : ℕ} → Chain r.parent i d → d < r.c
      range id = chain_range nest P hi id

      go : (m d : ℕ) → Chain r.parent i d → Domain s (r.block d) y → s.home y ≤ r.block d + m → Follows d y i
      go zero d id y_in l = cases (way_of d y hy y_in) (λ e. follow_home d y i (range id) hy e id) (λ w. absurd (way_ends w (omega arith)))
      go (suc m) d id y_in l = cases (way_of d y hy y_in) (λ e. follow_home d y i (range id) hy e id) λ w. cases (chain_child id)
          (λ e. follow_fresh (range id) hy w id (λ q c z f b. omega (arith, e, chain_le P.tree c, P.tree.falls q z, f)))
          (λ q.
          let z : 0 < q.0 = child_pos P.tree q.2 q.3 in
          cases (cases_eq (r.block q.0) w.way_k)
          (λ e. follow_down (range q.1) hy w q.1 z q.2 e
          (go m q.0 q.1 (rw e w.way_in) (omega (arith, e, w.way_nearer))))
          (λ g. follow_fresh (range id) hy w id (λ q' c z' f b. g (ap r.block (no_rung_twice P.tree q.1 c z z' (q.2 ∙ sym f)) ∙ b))))
