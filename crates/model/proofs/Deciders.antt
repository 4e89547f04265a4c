-- Tests that compute, of the words of the model: first, last and next, derived edges, and which copy comes before which. The worked example
-- is checked by them.
use Rattle.std.proofs.Common.{ℕ, suc, Bool, true, false, arith}
use Rattle.model.specs.Forests.{Falls}
use Rattle.model.specs.Specifications.{Spec, Domain}
use Rattle.model.specs.Orders.{Turned, Sooner, Before, Position}
use Rattle.model.specs.Runs.{Run, Mate, First, Last, Next, Alls, Lasts, Firsts, Farthest, Plain, Back, Derived}
use Rattle.model.proofs.Counts.{count, count_is, count_iff}
use Rattle.model.proofs.Chains.{chain_le}
use Rattle.model.proofs.Sealing.{far_chain, far_by_chain}
use Rattle.model.proofs.Tests.{Test, test_eq, test_le, test_lt, test_bool, test_and, test_or, test_not, test_imp, test_as, test_all, test_any, test_chain}

module _ (r : Run) where
  abbrev pub test_mate : (q j : ℕ) → Test (Mate r q j)
  test_mate q j = test_as
      (λ h. record { exists = h.0.0; not_zero = h.0.1; one_parent = h.1.0; one_block = h.1.1 })
      (λ m. ((m.exists, m.not_zero), (m.one_parent, m.one_block)))
      (test_and (test_and (test_lt j r.c) (test_lt 0 j)) (test_and (test_eq (r.parent j) (r.parent q)) (test_eq (r.block j) (r.block q))))

  abbrev pub test_first : (q : ℕ) → Test (First r q)
  test_first q = test_as (λ h j m. h j m.exists m) (λ h j l m. h j m) (test_all r.c (λ j. test_imp (test_mate q j) (test_le q j)))

  abbrev pub test_last : (q : ℕ) → Test (Last r q)
  test_last q = test_as (λ h j m. h j m.exists m) (λ h j l m. h j m) (test_all r.c (λ j. test_imp (test_mate q j) (test_le j q)))

  abbrev pub test_next : (q p : ℕ) → Test (Next r q p)
  test_next q p = test_as
      (λ h. record { mate = h.0; later = h.1.0; none_between = λ j m l. h.1.1 j m.exists m l })
      (λ n. (n.mate, (n.later, λ j l m. n.none_between j m)))
      (test_and (test_mate q p) (test_and (test_lt q p) (test_all r.c (λ j. test_imp (test_mate q j) (test_imp (test_lt q j) (test_le p j))))))

module _ (s : Spec) (r : Run) (nest : Falls s.above) (tree : Falls r.parent) where
  abbrev pub test_in : (k x : ℕ) → Test (Domain s k x)
  test_in k x = test_chain nest (s.home x) k

  abbrev pub test_alls : (P : ℕ → Type 0) → ((q : ℕ) → Test (P q)) → (i d : ℕ) → Test (Alls s r P i d)
  test_alls P t i d = test_as (λ h q a. h q (omega (arith, chain_le tree a)) a) (λ h q l. h q)
      (test_all (suc i) (λ q. test_imp (test_chain tree i q) (test_imp (test_chain tree q d) (test_imp (test_not (test_eq q d))
      (test_imp (test_eq (s.kind (r.block q)) 2) (t q))))))

  abbrev pub test_lasts : (i d : ℕ) → Test (Lasts s r i d)
  test_lasts = test_alls (Last r) (test_last r)

  abbrev pub test_firsts : (i d : ℕ) → Test (Firsts s r i d)
  test_firsts = test_alls (First r) (test_first r)

  abbrev pub test_farthest : (x y a : ℕ) → Test (Farthest s x y a)
  test_farthest x y a = test_as
      (λ h. far_by_chain nest h.0 h.1.0 (λ k i j. h.1.1 k (omega (arith, chain_le nest i)) i j))
      (λ f. (f.holds_x, (f.holds_y, λ k l. far_chain nest f k)))
      (test_and (test_in a x) (test_and (test_in a y)
      (test_all (suc (s.home x)) (λ k. test_imp (test_in k x) (test_imp (test_in k y) (test_chain nest a k))))))

  abbrev pub test_plain : (u w : ℕ) → Test (Plain s r u w)
  test_plain u w = test_as
      (λ h. let t = h.1.2 in record {
        plain_edge = h.0;
        common = h.1.0;
        far = t.0.0;
        in_u = t.0.1;
        in_w = t.1.0;
        lasts = t.1.1.0;
        firsts = t.1.1.1;
      })
      (λ p. (p.plain_edge, (p.common, omega (arith, chain_le tree p.in_u), ((p.far, p.in_u), (p.in_w, (p.lasts, p.firsts))))))
      (test_and (test_bool (s.edge (r.origin u) (r.origin w)))
      (test_any (suc (r.context u)) (λ d. test_and
      (test_and (test_farthest (r.origin u) (r.origin w) (r.block d)) (test_chain tree (r.context u) d))
      (test_and (test_chain tree (r.context w) d) (test_and (test_lasts (r.context u) d) (test_firsts (r.context w) d))))))

  abbrev pub test_back : (u w : ℕ) → Test (Back s r u w)
  test_back u w = test_as
      (λ h. let t = h.2.2 in record {
        from = h.0;
        to = h.2.0;
        is_loop = t.0.0;
        from_sink = t.0.1.0;
        to_source = t.0.1.1;
        back_u = t.1.0.0;
        back_w = t.1.0.1;
        next = t.1.1.0;
        back_lasts = t.1.1.1.0;
        back_firsts = t.1.1.1.1;
      })
      (λ p. (
        p.from,
        omega (arith, chain_le tree p.back_u),
        (
          p.to,
          omega (arith, chain_le tree p.back_w),
          ((p.is_loop, (p.from_sink, p.to_source)), ((p.back_u, p.back_w), (p.next, (p.back_lasts, p.back_firsts)))),
        ),
      ))
      (test_any (suc (r.context u)) (λ q. test_any (suc (r.context w)) (λ q'. test_and
      (test_and (test_eq (s.kind (r.block q)) 2)
      (test_and (test_eq (r.origin u) (s.sink (r.block q))) (test_eq (r.origin w) (s.source (r.block q)))))
      (test_and (test_and (test_chain tree (r.context u) q) (test_chain tree (r.context w) q'))
      (test_and (test_next r q q') (test_and (test_lasts (r.context u) q) (test_firsts (r.context w) q')))))))

  abbrev pub test_derived : (u w : ℕ) → Test (Derived s r u w)
  test_derived u w = test_as
      (λ h. record { tail_range = h.0.0; head_range = h.0.1; way = h.1 })
      (λ d. ((d.tail_range, d.head_range), d.way))
      (test_and (test_and (test_lt u r.v) (test_lt w r.v)) (test_or (test_plain u w) (test_back u w)))

abbrev pub test_turned : (b : Bool) (s t : ℕ) → Test (Turned b s t)
test_turned true s t = test_lt t s
test_turned false s t = test_lt s t

module _ (sp : Spec) (r : Run) (o : ℕ → Bool) (tree : Falls r.parent) where
  abbrev pub test_sooner : (s t : ℕ) → Test (Sooner sp r o s t)
  test_sooner s t = test_or (test_lt (r.block s) (r.block t))
      (test_and (test_eq (r.block s) (r.block t)) (test_turned (o (sp.kind (r.block s))) s t))

  abbrev pub test_before : (i j : ℕ) → Test (Before sp r o i j)
  test_before i j = test_or (test_and (test_chain tree j i) (test_not (test_eq i j)))
      (test_as
      (λ h. let x = h.2.2 in record {
        bs = h.0;
        bt = h.2.0;
        sooner = x.1;
        bsplit = record { left = x.0.0.0; right = x.0.0.1; left_pos = x.0.1.0; right_pos = x.0.1.1.0; same_parent = x.0.1.1.1 };
      })
      (λ b. (
        b.bs,
        omega (arith, chain_le tree b.bsplit.left),
        (
          b.bt,
          omega (arith, chain_le tree b.bsplit.right),
          (((b.bsplit.left, b.bsplit.right), (b.bsplit.left_pos, (b.bsplit.right_pos, b.bsplit.same_parent))), b.sooner),
        ),
      ))
      (test_any (suc i) (λ s. test_any (suc j) (λ t. test_and
      (test_and (test_and (test_chain tree i s) (test_chain tree j t))
      (test_and (test_lt 0 s) (test_and (test_lt 0 t) (test_eq (r.parent s) (r.parent t)))))
      (test_sooner s t)))))

  -- a position, by counting with the test
  pub position_at : (i : ℕ) → Position sp r o i (count r.c (λ j. (test_before j i).bit))
  position_at i = count_iff (λ j l. (test_before j i).so) (λ j l. (test_before j i).thus) (count_is r.c (λ j. (test_before j i).bit))
