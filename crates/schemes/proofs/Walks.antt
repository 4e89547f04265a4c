-- Passes over the edges, and the walk that they make.
use Rattle.std.proofs.Common.{◌≡◌, ℕ, ◌+◌, ◌<◌, Bool, true, false, not, T, ◌⊎◌, ◌↔◌, List, length, sym, refl, subst, inl, inr, T_not, below_more}
use lib.Dec.{not_T}
use Rattle.model.specs.Paths.{Path*, here, step}
use Rattle.model.proofs.Counts.{count, count_is, count_lt}
use Rattle.records.specs.declared.kinds.SpecEdge.{SpecEdge}
use Rattle.graphs.specs.Rows.{Holds, vertices}
use Rattle.graphs.specs.Tests.{row_test}
use Rattle.graphs.specs.declared.row.Row.{Row}
use Rattle.graphs.proofs.Rows.{holds_range}
use Rattle.graphs.proofs.Tests.{row_test_law}
use Rattle.rules.specs.Parts.{tail_at, head_at}
use Rattle.rules.proofs.Ranges.{listed_at, at_listed}
use Rattle.schemes.specs.Walks.{Listed, Passed}

module _ (es : List SpecEdge) (before after : Row) (marked : Bool) (i : ℕ) (lt : i < length es) (p : Passed es before after marked i) where
  -- the head of edge i is marked anew
  pub pass_mark : (after' : Row) → head_at es i < vertices → Holds after (tail_at es i) → (¬ (Holds after (head_at es i)))
      → ((y : ℕ) → Holds after' y ↔ (Holds after y ⊎ ((y ≡ head_at es i) × (head_at es i < vertices)))) → Passed es before after' true (i + 1)
  pass_mark after' h t f law =
      record {
        grows = λ k m. (law k).1 (inl (p.grows k m));
        sound = λ x s k m. elim ((law k).0 m) [
          | inl a ↦ p.sound x s k a
          | inr e ↦ subst (λ (v : ℕ). Path* (Listed es) x v) (sym e.0) (step (p.sound x s (tail_at es i) t) (at_listed es i lt))
        ];
        one_new = λ _. (head_at es i, (λ b. f (p.grows (head_at es i) b)), (law (head_at es i)).1 (inr (refl, h)));
        none_new = λ n. absurd (n tt);
        closed = λ n. absurd (n tt);
      }

  -- nothing to mark at edge i
  pub pass_skip : (Holds after (tail_at es i) → Holds after (head_at es i)) → Passed es before after marked (i + 1)
  pass_skip f =
      record {
        grows = p.grows;
        sound = p.sound;
        one_new = p.one_new;
        none_new = p.none_new;
        closed = λ n. below_more (λ j. Holds before (tail_at es j) → Holds before (head_at es j)) i (p.closed n)
            (λ b. p.none_new n (head_at es i) (f (p.grows (tail_at es i) b)));
      }

-- how many vertices are not marked
unfoldable pub unmarked : Row → ℕ
unmarked row = count vertices (λ x. not (row_test row x))

fewer : (n x : ℕ) (f g : ℕ → Bool) → x < n → ((k : ℕ) → T (f k) → T (g k)) → (¬ (T (f x))) → T (g x) → count n (λ k. not (g k)) < count n (λ k. not (f k))
fewer n x f g l grow out inside =
    count_lt x (λ k t. not_T (f k) (λ h. T_not (g k) t (grow k h))) l (λ t. T_not (g x) t inside) (not_T (f x) out)
    (count_is n (λ k. not (g k))) (count_is n (λ k. not (f k)))

pub unmarked_less : (es : List SpecEdge) (before after : Row) (i : ℕ) → Passed es before after true i → unmarked after < unmarked before
unfolding unmarked
unmarked_less es before after i p =
    let w = p.one_new tt in
    fewer vertices w.0 (row_test before) (row_test after) (holds_range after w.0 w.2)
    (λ k t. (row_test_law after k).1 (p.grows k ((row_test_law before k).0 t)))
    (λ t. w.1 ((row_test_law before w.0).0 t)) ((row_test_law after w.0).1 w.2)

-- the marks of a walk from x
pub record Walk (es : List SpecEdge) (x : ℕ) (seen : Row) : Type 0 where
  pub start : Holds seen x
  pub on_path : (k : ℕ) → Holds seen k → Path* (Listed es) x k

-- a pass that marks nothing ends it: the marks are closed under every edge, so they hold the end of every path
module _ (es : List SpecEdge) (x : ℕ) (seen seen' : Row) (w : Walk es x seen) (p : Passed es seen seen' false (length es)) where
  along : {y : ℕ} → Path* (Listed es) x y → Holds seen y
  along here = w.start
  along (step {y = a} {z = b} q e) =
      let k = listed_at es a b e in
      subst (Holds seen) k.3 (p.closed (λ t. t) k.0 k.1 (subst (Holds seen) (sym k.2) (along q)))

  pub walk_ends : (y : ℕ) → Holds seen' y ↔ Path* (Listed es) x y
  walk_ends y = (p.sound x w.on_path y, λ q. p.grows y (along q))
