-- First, last and next in a group; and the lowest copy in a chain at which a loop turned, if there is one.
use Rattle.std.proofs.Common.{◌≡◌, ℕ, zero, suc, ◌<◌, ◌≤◌, ◌≢◌, ◌⊎◌, sym, refl, ◌∙◌, subst, inl, inr, arith}
use Rattle.model.specs.Forests.{Chain, stop, up, Falls}
use Rattle.model.specs.Specifications.{Spec}
use Rattle.model.specs.Runs.{Run, Mate, Next, First, Last, Alls, Firsts}
use Rattle.std.proofs.lemmas.Bool.{cases_eq, cases_lt}
use Rattle.model.proofs.Cases.{cases, zero_or}
use Rattle.model.proofs.Chains.{chain_le, chain_parent}

-- q is the lowest copy below d in the chain of i that is a loop's and not the first of its group; p is the copy before it
pub record Turn (s : Spec) (r : Run) (i d : ℕ) : Type 0 where
  pub q : ℕ
  pub p : ℕ
  pub turn_in : Chain r.parent i q
  pub turn_above : Chain r.parent (r.parent q) d
  pub turn_loop : s.kind (r.block q) ≡ 2
  pub turn_firsts : Firsts s r i q
  pub turn_next : Next r p q

module _ {r : Run} where
  mate_self : {q : ℕ} → q < r.c → 0 < q → Mate r q q
  mate_self h z = record { exists = h; not_zero = z; one_parent = refl; one_block = refl }

  pub mate_turn : {q j : ℕ} → q < r.c → 0 < q → Mate r q j → Mate r j q
  mate_turn h z m = record { exists = h; not_zero = z; one_parent = sym m.one_parent; one_block = sym m.one_block }

  pub mate_join : {q j k : ℕ} → Mate r q j → Mate r j k → Mate r q k
  mate_join a b = record {
    exists = b.exists;
    not_zero = b.not_zero;
    one_parent = b.one_parent ∙ a.one_parent;
    one_block = b.one_block ∙ a.one_block;
  }

  mate_or : (q j : ℕ) → j < r.c → Mate r q j ⊎ (¬ (Mate r q j))
  mate_or q j h =
      cases (zero_or j) (λ z. inr (λ m. omega (arith, m.not_zero))) λ z.
      cases (cases_eq (r.parent j) (r.parent q)) (λ e. cases (cases_eq (r.block j) (r.block q))
      (λ e'. inl (record { exists = h; not_zero = z; one_parent = e; one_block = e' }))
      (λ d. inr (λ m. d m.one_block)))
      (λ d. inr (λ m. d m.one_parent))

  -- a copy is the first of its group, or the next after one: look down from it
  pub first_or_next : (q : ℕ) → q < r.c → 0 < q → First r q ⊎ ((p : ℕ) × Next r p q)
  first_or_next q h z = go q (omega arith) (λ j m l. l)
    where
      go : (k : ℕ) → k ≤ q → ((j : ℕ) → Mate r q j → j < q → j < k) → First r q ⊎ ((p : ℕ) × Next r p q)
      go zero l f = inl (λ j m. cases (cases_lt j q) (λ a. absurd (omega (arith, f j m a))) (λ a. a))
      go (suc k) l f = cases (mate_or q k (omega arith))
          (λ m. inr (
            k,
            record {
              mate = mate_turn h z m;
              later = omega arith;
              none_between = λ j m' b. cases (cases_lt j q) (λ a. absurd (omega (arith, f j (mate_join m m') a))) (λ a. a);
            },
          ))
          (λ g. go k (omega arith) (λ j m a. cases (cases_eq j k) (λ e. absurd (g (rw e at m))) (λ d. omega (arith, f j m a))))

  -- the last copy of a group: look down from c
  pub last_of : (q : ℕ) → q < r.c → 0 < q → (e : ℕ) × Mate r q e × Last r e
  last_of q h z = go r.c (omega arith) (λ j m. m.exists)
    where
      go : (k : ℕ) → k ≤ r.c → ((j : ℕ) → Mate r q j → j < k) → (e : ℕ) × Mate r q e × Last r e
      go zero l f = absurd (omega (arith, f q (mate_self h z)))
      go (suc k) l f = cases (mate_or q k (omega arith))
          (λ m. (k, m, λ j m'. omega (arith, f j (mate_join m m'))))
          (λ g. go k (omega arith) (λ j m. cases (cases_eq j k) (λ e. absurd (g (rw e at m))) (λ d. omega (arith, f j m))))

-- P holds of every loop copy below d in the chain of i: going up the chain, a copy at a time
module _ (s : Spec) (r : Run) (P : ℕ → Type 0) where
  -- nothing in the chain of d is below d
  pub alls_self : Falls r.parent → {i d : ℕ} → i ≡ d → Alls s r P i d
  alls_self f e q a b g k = absurd (g (omega (arith, e, chain_le f a, chain_le f b)))

  -- it holds of i, if that is a loop copy, and in the chain of its parent
  pub alls_more : {i d : ℕ} → (s.kind (r.block i) ≡ 2 → P i) → Alls s r P (r.parent i) d → Alls s r P i d
  alls_more here rest q a b g k = cases (chain_parent a) (λ e. subst P e (here (rw (← e) at k))) (λ c. rest q c b g k)

  -- and the other way round

  pub alls_here : {i d : ℕ} → Chain r.parent i d → i ≢ d → Alls s r P i d → s.kind (r.block i) ≡ 2 → P i
  alls_here {i} c g all k = all i stop c g k

  pub alls_rest : {i d : ℕ} → Alls s r P i d → Alls s r P (r.parent i) d
  alls_rest all q a = all q (up a)

module _ {r : Run} (s : Spec) (f : Falls r.parent) where
  pub firsts_or_turn : {i d : ℕ} → i < r.c → Chain r.parent i d → Firsts s r i d ⊎ Turn s r i d
  firsts_or_turn h stop = inl (alls_self s r (First r) f refl)
  firsts_or_turn {i} {d} h (up c) =
      cases (zero_or i) (λ e. inl (alls_self s r (First r) f (omega (arith, e, chain_le f (up c))))) λ z.
      let rest : Firsts s r (r.parent i) d ⊎ Turn s r (r.parent i) d = firsts_or_turn (omega (arith, f.falls i z)) c in
      let on : (s.kind (r.block i) ≡ 2 → First r i) → Firsts s r i d ⊎ Turn s r i d = λ a. cases rest
      (λ g. inl (alls_more s r (First r) a g))
      (λ t. inr (record {
        q = t.q;
        p = t.p;
        turn_in = up t.turn_in;
        turn_above = t.turn_above;
        turn_loop = t.turn_loop;
        turn_next = t.turn_next;
        turn_firsts = alls_more s r (First r) a t.turn_firsts;
      })) in
      cases (cases_eq (s.kind (r.block i)) 2)
      (λ k. cases (first_or_next i h z)
      (λ a. on (λ k'. a))
      (λ n. inr (record { q = i; p = n.0; turn_in = stop; turn_above = c; turn_loop = k; turn_firsts = alls_self s r (First r) f refl; turn_next = n.1 })))
      (λ g. on (λ k. absurd (g k)))
