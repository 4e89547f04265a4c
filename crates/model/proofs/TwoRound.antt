-- The two-round import is sealed and conforms, and its orders, labels and answers are as stated: all by tests that compute.
use Rattle.std.proofs.Common.{◌≡◌, ℕ, suc, ◌<◌, ◌≤◌, Bool, ◌&&◌, T, eqb, ◌↔◌, List, [], ◌∷◌, length, sym, refl, ◌∙◌, subst, inl, inr, arith, eqb→eq}
use lib.ListN.{get_or-eq_default}
use Rattle.std.proofs.lemmas.List.{ext_get_or}
use Rattle.model.specs.Paths.{Path*, here, step}
use Rattle.model.specs.Forests.{stop, Falls}
use Rattle.model.specs.Specifications.{Edge, Domain, Link, KeepsLoopRule, ForkDomain, KeepsForkRule, ForkEnds, InRanges, Sealed}
use Rattle.model.specs.Runs.{Derived, Placed, Conforms}
use Rattle.model.specs.Orders.{order1, order2, order3, Position}
use Rattle.model.specs.Listings.{Listing}
use Rattle.model.specs.Labels.{Labelled, equal, forked, looped, asked}
use Rattle.model.specs.TwoRound.{table, paired, import_spec, import_run, import_label, ImportLaw}
use Rattle.std.proofs.lemmas.Bool.{cases_lt}
use Rattle.model.proofs.Cases.{cases}
use Rattle.model.proofs.Chains.{chain_le}
use Rattle.model.proofs.Counts.{count}
use Rattle.model.proofs.Tests.{Test, by_test, test_eq, test_lt, test_bool, test_and, test_or, test_not, test_imp, test_all, test_any, test_chain, and_so, or_so}
use Rattle.model.proofs.Deciders.{test_in, test_derived, test_before, position_at}
use Rattle.model.proofs.Listings.{written}

-- tables

-- a list of parents, 0 beyond its end, falls
table_falls : (ps : List ℕ) → table ps 0 ≡ 0 → ((i : ℕ) → i < length ps → 0 < i → table ps i < i) → Falls (table ps)
table_falls ps z f = record {
  zero_parent = z;
  falls = λ i h. cases (cases_lt i (length ps)) (λ l. f i l h) (λ l. omega (arith, get_or-eq_default ps 0 {n = i} l));
}

-- what is paired stands at one place of both lists
paired_at : (ts hs : List ℕ) (x y : ℕ) → T (paired ts hs x y) → (i : ℕ) × (i < length ts) × (table ts i ≡ x) × (table hs i ≡ y)
paired_at [] hs x y h = elim h [ ]
paired_at (t ∷ ts) [] x y h = elim h [ ]
paired_at (t ∷ ts) (u ∷ us) x y h = cases (or_so (eqb t x && eqb u y) (paired ts us x y) h)
    (λ a. let w = and_so (eqb t x) (eqb u y) a in (0, omega arith, eqb→eq t x w.0, eqb→eq u y w.1))
    (λ b. let w = paired_at ts us x y b in (suc w.0, omega (arith, w.1), w.2, w.3))

-- so what holds of the numbers at every place holds of all that are paired
paired_all : (P : ℕ → ℕ → Type 0) (ts hs : List ℕ) → ((i : ℕ) → i < length ts → P (table ts i) (table hs i))
    → (x y : ℕ) → T (paired ts hs x y) → P x y
paired_all P ts hs f x y h =
    let w = paired_at ts hs x y h in
    subst (λ a. P a y) w.2 (subst (λ b. P (table ts w.0) b) w.3 (f w.0 w.1))

nest_falls : Falls import_spec.above
nest_falls = table_falls (0 ∷ 0 ∷ 1 ∷ []) refl
    (by_test (test_all 3 (λ k. test_imp (test_lt 0 k) (test_lt (import_spec.above k) k))) tt)

tree_falls : Falls import_run.parent
tree_falls = table_falls (0 ∷ 0 ∷ 1 ∷ 1 ∷ 0 ∷ 4 ∷ []) refl
    (by_test (test_all 6 (λ i. test_imp (test_lt 0 i) (test_lt (import_run.parent i) i))) tt)

-- the specification

abbrev t_in : (k x : ℕ) → Test (Domain import_spec k x)
t_in k x = test_in import_spec import_run nest_falls tree_falls k x

abbrev t_edge : (x y : ℕ) → Test (Edge import_spec x y)
t_edge x y = test_bool (import_spec.edge x y)

-- an edge leads to the next vertex
edge_is : (x y : ℕ) → Edge import_spec x y → (y ≡ suc x) × (x < 4)
edge_is = paired_all (λ x y. (y ≡ suc x) × (x < 4)) (0 ∷ 1 ∷ 2 ∷ 3 ∷ []) (1 ∷ 2 ∷ 3 ∷ 4 ∷ [])
    (by_test (test_all 4 (λ i. test_and
    (test_eq (table (1 ∷ 2 ∷ 3 ∷ 4 ∷ []) i) (suc (table (0 ∷ 1 ∷ 2 ∷ 3 ∷ []) i)))
    (test_lt (table (0 ∷ 1 ∷ 2 ∷ 3 ∷ []) i) 4))) tt)

edge_low : (x y : ℕ) → Edge import_spec x y → (x < 5) × (y < 5)
edge_low x y e = let w = edge_is x y e in (omega (arith, w.1), omega (arith, w.0, w.1))

path_le : {x y : ℕ} → Path* (Edge import_spec) x y → x ≤ y
path_le here = omega arith
path_le (step {y = y} {z = z} p e) = omega (arith, path_le p, (edge_is y z e).0)

import_ranges : InRanges import_spec
import_ranges = record {
  edge_range = edge_low;
  home_range = by_test (test_all 5 (λ x. test_lt (import_spec.home x) 3)) tt;
  nest = nest_falls;
  whole = refl;
  kinds = λ k z l. by_test (test_all 3 (λ k. test_imp (test_lt 0 k)
      (test_or (test_eq (import_spec.kind k) 1) (test_eq (import_spec.kind k) 2)))) tt k l z;
  source_range = by_test (test_all 3 (λ k. test_lt (import_spec.source k) 5)) tt;
  sink_range = by_test (test_all 3 (λ k. test_lt (import_spec.sink k) 5)) tt;
}

loop_one : KeepsLoopRule import_spec 1
loop_one = record {
  source_in = stop;
  sink_in = stop;
  some_in = λ x l i d. let w = by_test (test_all 5 (λ x. test_imp (t_in 1 x) (test_imp (test_not (test_eq x 1))
      (test_any 5 (λ y. t_edge y x))))) tt x l i d in (w.0, w.2);
  all_in = λ x y i d e. let b = edge_low y x e in by_test (test_all 5 (λ x. test_all 5 (λ y.
      test_imp (t_in 1 x) (test_imp (test_not (test_eq x 1)) (test_imp (t_edge y x) (t_in 1 y)))))) tt x b.1 y b.0 i d e;
  some_out = λ x l i d. let w = by_test (test_all 5 (λ x. test_imp (t_in 1 x) (test_imp (test_not (test_eq x 3))
      (test_any 5 (λ y. t_edge x y))))) tt x l i d in (w.0, w.2);
  all_out = λ x y i d e. let b = edge_low x y e in by_test (test_all 5 (λ x. test_all 5 (λ y.
      test_imp (t_in 1 x) (test_imp (test_not (test_eq x 3)) (test_imp (t_edge x y) (t_in 1 y)))))) tt x b.0 y b.1 i d e;
}

only_two : (x : ℕ) → x < 5 → Domain import_spec 2 x → x ≡ 2
only_two = by_test (test_all 5 (λ x. test_imp (t_in 2 x) (test_eq x 2))) tt

fork_two : ForkDomain import_spec 2
fork_two = record {
  not_empty = (2, omega arith, stop);
  source_out = λ i. omega (arith, chain_le nest_falls i);
  sink_out = λ i. omega (arith, chain_le nest_falls i);
  fork_some_in = λ x l i. let w = by_test (test_all 5 (λ x. test_imp (t_in 2 x)
      (test_any 5 (λ y. t_edge y x)))) tt x l i in (w.0, w.2);
  fork_all_in = λ x y i e. let b = edge_low y x e in by_test (test_all 5 (λ x. test_all 5 (λ y.
      test_imp (t_in 2 x) (test_imp (t_edge y x) (test_or (t_in 2 y) (test_eq y 1)))))) tt x b.1 y b.0 i e;
  fork_some_out = λ x l i. let w = by_test (test_all 5 (λ x. test_imp (t_in 2 x)
      (test_any 5 (λ y. t_edge x y)))) tt x l i in (w.0, w.2);
  fork_all_out = λ x y i e. let b = edge_low x y e in by_test (test_all 5 (λ x. test_all 5 (λ y.
      test_imp (t_in 2 x) (test_imp (t_edge x y) (test_or (t_in 2 y) (test_eq y 3)))))) tt x b.0 y b.1 i e;
  connected = λ x y lx ly i j. subst (λ z. Path* (Link import_spec 2) x z) (only_two x lx i ∙ sym (only_two y ly j)) here;
}

fork_two_ends : ForkEnds import_spec 2
fork_two_ends = record {
  source_at = inl stop;
  sink_at = inl stop;
  source_forks = λ j z l. by_test (test_all 3 (λ j. test_imp (test_lt 0 j) (test_imp (test_eq (import_spec.kind j) 1)
      (test_imp (t_in j 1) (test_chain nest_falls 2 j))))) tt j l z;
  sink_forks = λ j z l. by_test (test_all 3 (λ j. test_imp (test_lt 0 j) (test_imp (test_eq (import_spec.kind j) 1)
      (test_imp (t_in j 3) (test_chain nest_falls 2 j))))) tt j l z;
}

no_in : (x : ℕ) → x < 5 → ((y : ℕ) → ¬ (Edge import_spec y x)) ↔ (x ≡ 0)
no_in x l =
    let w = by_test (test_all 5 (λ x. test_and
    (test_imp (test_all 5 (λ y. test_not (t_edge y x))) (test_eq x 0))
    (test_imp (test_eq x 0) (test_all 5 (λ y. test_not (t_edge y x)))))) tt x l in
    ((λ h. w.0 (λ y ly. h y)), λ e y h. w.1 e y (edge_low y x h).0 h)

no_out : (x : ℕ) → x < 5 → ((y : ℕ) → ¬ (Edge import_spec x y)) ↔ (x ≡ 4)
no_out x l =
    let w = by_test (test_all 5 (λ x. test_and
    (test_imp (test_all 5 (λ y. test_not (t_edge x y))) (test_eq x 4))
    (test_imp (test_eq x 4) (test_all 5 (λ y. test_not (t_edge x y)))))) tt x l in
    ((λ h. w.0 (λ y ly. h y)), λ e y h. w.1 e y (edge_low x y h).1 h)

-- block 1 is the only loop, and block 2 the only fork
one_loop : (k : ℕ) → k < 3 → import_spec.kind k ≡ 2 → 1 ≡ k
one_loop = by_test (test_all 3 (λ k. test_imp (test_eq (import_spec.kind k) 2) (test_eq 1 k))) tt

one_fork : (k : ℕ) → k < 3 → import_spec.kind k ≡ 1 → 2 ≡ k
one_fork = by_test (test_all 3 (λ k. test_imp (test_eq (import_spec.kind k) 1) (test_eq 2 k))) tt

other_kind : (k : ℕ) → k < 3 → 0 < k → ¬ (import_spec.kind k ≡ import_spec.kind (import_spec.above k))
other_kind = by_test (test_all 3 (λ k. test_imp (test_lt 0 k)
    (test_not (test_eq (import_spec.kind k) (import_spec.kind (import_spec.above k)))))) tt

import_sealed : Sealed import_spec
import_sealed = record {
  ranges = import_ranges;
  acyclic = λ x c. omega (arith, path_le c.1, (edge_is c.0 x c.2).0);
  whole_ends = record { only_source = no_in; only_sink = no_out };
  loops = λ k z l e. subst (KeepsLoopRule import_spec) (one_loop k l e) loop_one;
  forks = λ k z l e. subst (KeepsForkRule import_spec) (one_fork k l e) (record { inner = fork_two; ends = fork_two_ends });
  distinct = λ k z l e. absurd (other_kind k l z e);
}

-- the run

listed_low : (u w : ℕ) → T (import_run.listed u w) → (u < 9) × (w < 9)
listed_low = paired_all (λ u w. (u < 9) × (w < 9)) (0 ∷ 1 ∷ 1 ∷ 2 ∷ 3 ∷ 4 ∷ 5 ∷ 6 ∷ 7 ∷ []) (1 ∷ 2 ∷ 3 ∷ 4 ∷ 4 ∷ 5 ∷ 6 ∷ 7 ∷ 8 ∷ [])
    (by_test (test_all 9 (λ i. test_and
    (test_lt (table (0 ∷ 1 ∷ 1 ∷ 2 ∷ 3 ∷ 4 ∷ 5 ∷ 6 ∷ 7 ∷ []) i) 9)
    (test_lt (table (1 ∷ 2 ∷ 3 ∷ 4 ∷ 4 ∷ 5 ∷ 6 ∷ 7 ∷ 8 ∷ []) i) 9))) tt)

abbrev t_derived : (u w : ℕ) → Test (Derived import_spec import_run u w)
t_derived u w = test_derived import_spec import_run nest_falls tree_falls u w

abbrev t_listed : (u w : ℕ) → Test (T (import_run.listed u w))
t_listed u w = test_bool (import_run.listed u w)

derived_now : (u : ℕ) → u < 9 → (w : ℕ) → w < 9
    → (T (import_run.listed u w) → Derived import_spec import_run u w) × (Derived import_spec import_run u w → T (import_run.listed u w))
derived_now = by_test (test_all 9 (λ u. test_all 9 (λ w.
    test_and (test_imp (t_listed u w) (t_derived u w)) (test_imp (t_derived u w) (t_listed u w))))) tt

import_placed : Placed import_spec import_run
import_placed = record {
  tree = tree_falls;
  copies = omega arith;
  block_zero = refl;
  block_range = λ i z l. by_test (test_all 6 (λ i. test_imp (test_lt 0 i)
      (test_and (test_lt 0 (import_run.block i)) (test_lt (import_run.block i) 3)))) tt i l z;
  context_range = by_test (test_all 9 (λ u. test_lt (import_run.context u) 6)) tt;
  origin_range = by_test (test_all 9 (λ u. test_lt (import_run.origin u) 5)) tt;
  follows = by_test (test_all 6 (λ i. test_eq (import_run.block (import_run.parent i)) (import_spec.above (import_run.block i)))) tt;
  children = λ i k li zk lk e. let w = by_test (test_all 6 (λ i. test_all 3 (λ k. test_imp (test_lt 0 k)
      (test_imp (test_eq (import_spec.above k) (import_run.block i))
      (test_any 6 (λ j. test_and (test_lt 0 j)
      (test_and (test_eq (import_run.parent j) i) (test_eq (import_run.block j) k)))))))) tt i li k lk zk e in
      (w.0, w.1, w.2.0, w.2.1.0, w.2.1.1);
  at_home = by_test (test_all 9 (λ u. test_eq (import_spec.home (import_run.origin u)) (import_run.block (import_run.context u)))) tt;
  one_step = λ i x li lx e. let w = by_test (test_all 6 (λ i. test_all 5 (λ x. test_imp (test_eq (import_spec.home x) (import_run.block i))
      (test_any 9 (λ u. test_and (test_eq (import_run.context u) i) (test_eq (import_run.origin u) x)))))) tt i li x lx e in
      (w.0, w.1, w.2.0, w.2.1);
  only_step = λ u w lu lw. by_test (test_all 9 (λ u. test_all 9 (λ w.
      test_imp (test_eq (import_run.context u) (import_run.context w))
      (test_imp (test_eq (import_run.origin u) (import_run.origin w)) (test_eq u w))))) tt u lu w lw;
}

import_conforms : Conforms import_spec import_run
import_conforms = record {
  placed = import_placed;
  exactly = λ u w. ((λ h. let l = listed_low u w h in (derived_now u l.0 w l.1).0 h), λ d. (derived_now u d.tail_range w d.head_range).1 d);
}

-- the orders and the labels

abbrev place : (ℕ → Bool) → ℕ → ℕ
place o i = count 6 (λ j. (test_before import_spec import_run o tree_falls j i).bit)

position_now : (o : ℕ → Bool) (i q : ℕ) → place o i ≡ q → Position import_spec import_run o i q
position_now o i q e = subst (λ z. Position import_spec import_run o i z) e (position_at import_spec import_run o tree_falls i)

-- an order is the list of six copies in which each stands at its position
written_now : (o : ℕ → Bool) (l : List ℕ) → length l ≡ 6 → ((q : ℕ) → q < 6 → (place o (table l q) ≡ q) × (table l q < 6))
    → Listing import_spec import_run o l
written_now o l n f =
    let W = written import_spec import_run o tree_falls (omega arith) in
    let m = W.some_listing in
    subst (λ z. Listing import_spec import_run o z)
    (ext_get_or 0 m.0 l (W.as_long m.0 m.1 ∙ sym n) (λ q lq.
    let g = f q (omega (arith, W.as_long m.0 m.1)) in
    ((W.position_place m.0 m.1 (table l q) q g.1).0 (position_now o (table l q) q g.0)).1))
    m.1

abbrev t_written : (o : ℕ → Bool) (l : List ℕ) → Test ((q : ℕ) → q < 6 → (place o (table l q) ≡ q) × (table l q < 6))
t_written o l = test_all 6 (λ q. test_and (test_eq (place o (table l q)) q) (test_lt (table l q) 6))

places_now : (u : ℕ) → u < 9 → (place order1 (import_run.context u) ≡ (import_label u).q1)
    × ((place order2 (import_run.context u) ≡ (import_label u).q2) × (place order3 (import_run.context u) ≡ (import_label u).q3))
places_now = by_test (test_all 9 (λ u. test_and (test_eq (place order1 (import_run.context u)) (import_label u).q1)
    (test_and (test_eq (place order2 (import_run.context u)) (import_label u).q2)
    (test_eq (place order3 (import_run.context u)) (import_label u).q3)))) tt

labels_now : (u : ℕ) → u < 9 → Labelled import_spec import_run u (import_label u)
labels_now u l = let w = places_now u l in record {
  at1 = position_now order1 (import_run.context u) (import_label u).q1 w.0;
  at2 = position_now order2 (import_run.context u) (import_label u).q2 w.1.0;
  at3 = position_now order3 (import_run.context u) (import_label u).q3 w.1.1;
  is_vertex = refl;
}

pub import_law : ImportLaw
import_law = record {
  is_sealed = import_sealed;
  conforms = import_conforms;
  written_1 = written_now order1 (0 ∷ 1 ∷ 2 ∷ 3 ∷ 4 ∷ 5 ∷ []) refl (by_test (t_written order1 (0 ∷ 1 ∷ 2 ∷ 3 ∷ 4 ∷ 5 ∷ [])) tt);
  written_2 = written_now order2 (0 ∷ 1 ∷ 3 ∷ 2 ∷ 4 ∷ 5 ∷ []) refl (by_test (t_written order2 (0 ∷ 1 ∷ 3 ∷ 2 ∷ 4 ∷ 5 ∷ [])) tt);
  written_3 = written_now order3 (0 ∷ 4 ∷ 5 ∷ 1 ∷ 2 ∷ 3 ∷ []) refl (by_test (t_written order3 (0 ∷ 4 ∷ 5 ∷ 1 ∷ 2 ∷ 3 ∷ [])) tt);
  labels = labels_now;
  asked_2_3 = forked (omega arith) (inl (omega arith, omega arith));
  asked_2_6 = looped (omega arith) (λ x. omega arith) (inl (omega arith, omega arith)) ((λ t. omega arith), λ l. tt);
  asked_6_2 = looped (omega arith) (λ x. omega arith) (inr (omega arith, omega arith)) ((λ t. elim t [ ]), λ l. omega arith);
  asked_1_4 = equal refl ((λ t. step {y = 2} (step here tt) tt), λ p. tt);
  asked_4_1 = equal refl ((λ t. elim t [ ]), λ p. omega (arith, path_le p));
  asked_2_4 = asked (omega arith) (λ x. omega arith) (λ x. omega arith) ((λ t. step here tt), λ p. tt);
  asked_4_3 = asked (omega arith) (λ x. omega arith) (λ x. omega arith) ((λ t. elim t [ ]), λ p. omega (arith, path_le p));
  asked_5_5 = equal refl ((λ t. here), λ p. tt);
}
