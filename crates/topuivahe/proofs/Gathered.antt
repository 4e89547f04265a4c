-- The numbers of a range that a closure lets through, gathered from below.
use Rattle.std.proofs.Common.{◌≡◌, ℕ, ◌+◌, ◌≤◌, sym, ap, subst, ◌∙◌, arith, Bool, true, false, List, [], ◌∷◌, ◌++◌, append_assoc, IfOk, vec_items}
use Rattle.std.specs.Fn.{CalledAt}
use Rattle.std.specs.Iterator.{Yields}
use Rattle.std.specs.Iterator.Adapters.{filter_source, filter_callee, filter_steps}
use Rattle.std.specs.List.{FoldsTo}
use Rattle.std.specs.Prelude.{Vec, Result, Ok, Err}
use Rattle.std.proofs.lemmas.List.{append-nil}
use Rattle.std.specs.declared.iter.Filter.{Filter}
use Rattle.std.specs.declared.ops.Range.{Range}
use Rattle.std.proofs.iter.Yields.{nat_range_steps}
use Rattle.std.proofs.lemmas.Iterator.{IsCollectResult}
use Rattle.topuivahe.specs.Listings.{Lists, nothing, taken, passed}
use denote.Param.Members.{Mut}
use denote.Ref.{Bor}

module _ {F : Type 0} (g : Mut F (Bor ℕ × Unit {0}) Bool) (f : F) (P : ℕ → Type 0)
    (hit : (x : ℕ) (q : F) → CalledAt g f x true q → (q ≡ f) × P x) (miss : (x : ℕ) (q : F) → CalledAt g f x false q → (q ≡ f) × (¬ (P x))) where
  -- the numbers from s to t are passed over
  over : (ys : List ℕ) (s t : Range ℕ) (p q : F) (xs : List ℕ) → p ≡ f → Yields nat_range_steps s ys t → FoldsTo (λ p x q. CalledAt g p x false q) p ys q → Lists P s.start xs → s.start ≤ s.end
      → (q ≡ f) × (t.end ≡ s.end) × (t.start ≤ t.end) × Lists P t.start xs
  over [] s t p q xs a y c l b = (sym c ∙ a, ap (λ (r : Range ℕ). r.end) (sym y), subst (λ (r : Range ℕ). r.start ≤ r.end) y b, subst (λ (r : Range ℕ). Lists P r.start xs) y l)
  over (x ∷ ys) s t p q xs a y c l b =
      let m = miss x c.0 (subst (λ w. CalledAt g w x false c.0) a c.1) in
      let here : ¬ (P s.start) = subst (λ (n : ℕ). ¬ (P n)) y.1.1.1 m.1 in
      let more : Lists P y.0.start xs = subst (λ (n : ℕ). Lists P n xs) (sym y.1.1.2) (passed l here) in
      let rest = over ys y.0 t c.0 q xs m.0 y.2 c.2 more (omega (arith, y.1.0, y.1.1.0, y.1.1.2)) in
      (rest.0, rest.1 ∙ y.1.0, rest.2, rest.3)

  -- what comes from s on stands behind what was gathered before
  onward : (ys : List ℕ) (s t : Filter (Range ℕ) F) (xs : List ℕ) → filter_callee s ≡ f → Yields (filter_steps nat_range_steps g) s ys t → Lists P (filter_source s).start xs → (filter_source s).start ≤ (filter_source s).end
      → (filter_callee t ≡ f) × ((filter_source t).end ≡ (filter_source s).end) × ((filter_source t).start ≤ (filter_source t).end) × Lists P (filter_source t).start (xs ++ ys)
  onward [] s t xs a y l b =
      let l' : Lists P (filter_source s).start (xs ++ []) = subst (λ (zs : List ℕ). Lists P (filter_source s).start zs) (sym (append-nil xs)) l in (
        subst (λ (r : Filter (Range ℕ) F). filter_callee r ≡ f) y a,
        ap (λ (r : Filter (Range ℕ) F). (filter_source r).end) (sym y),
        subst (λ (r : Filter (Range ℕ) F). (filter_source r).start ≤ (filter_source r).end) y b,
        subst (λ (r : Filter (Range ℕ) F). Lists P (filter_source r).start (xs ++ [])) y l',
      )
  onward (z ∷ zs) s t xs a y l b =
      let k = y.1 in
      let m = over k.0 (filter_source s) k.2.0 (filter_callee s) k.1 xs a k.2.1 k.3 l b in
      let c = hit z (filter_callee y.0) (subst (λ w. CalledAt g w z true (filter_callee y.0)) m.0 k.4) in
      let same : z ≡ k.2.0.start = k.2.2.1.1 in
      let here : P k.2.0.start = subst P same c.1 in
      let with : Lists P (k.2.0.start + 1) (xs ++ z ∷ []) = subst (λ (n : ℕ). Lists P (k.2.0.start + 1) (xs ++ n ∷ [])) (sym same) (taken m.3 here) in
      let more : Lists P (filter_source y.0).start (xs ++ z ∷ []) = subst (λ (n : ℕ). Lists P n (xs ++ z ∷ [])) (sym k.2.2.1.2) with in
      let rest = onward zs y.0 t (xs ++ z ∷ []) c.0 y.2 more (omega (arith, m.1, m.2, k.2.2.0, k.2.2.1.0, k.2.2.1.2)) in
      (rest.0, rest.1 ∙ (k.2.2.0 ∙ m.1), rest.2, subst (λ (ws : List ℕ). Lists P (filter_source t).start ws) (append_assoc xs (z ∷ []) zs) rest.3)

-- `filter` and `collect` over the numbers below n
pub filtered_below : {F : Type 0} {g : Mut F (Bor ℕ × Unit {0}) Bool} {Z E : Type 0} (n : ℕ) (s : Filter (Range ℕ) F) (f : F) (r : Result (Vec ℕ Z) E) (P : ℕ → Type 0)
    → IsCollectResult (filter_steps nat_range_steps g) s r → filter_source s ≡ record { start = 0; end = n } → filter_callee s ≡ f
    → ((x : ℕ) (q : F) → CalledAt g f x true q → (q ≡ f) × P x) → ((x : ℕ) (q : F) → CalledAt g f x false q → (q ≡ f) × (¬ (P x)))
    → IfOk r (λ w. Lists P n (vec_items w))
filtered_below {F} {g} n s f (Err e) P d src same hit miss = tt
filtered_below {F} {g} n s f (Ok w) P d src same hit miss =
    let from : (filter_source s).start ≡ 0 = ap (λ (r : Range ℕ). r.start) src in
    let to : (filter_source s).end ≡ n = ap (λ (r : Range ℕ). r.end) src in
    let o = onward g f P hit miss d.0 s d.1.0 [] same d.1.1 (subst (λ (k : ℕ). Lists P k []) (sym from) nothing) (omega (arith, from)) in
    let k = (d.1.2 tt).1 in
    let m = over g f P hit miss k.0 (filter_source d.1.0) k.2.0 (filter_callee d.1.0) k.1 d.0 o.0 k.2.1 k.3 o.3 o.2 in
    let all : k.2.0.start ≡ n = omega (arith, m.1, m.2, o.1, to, k.2.2.1.0) in
    subst (λ (zs : List ℕ). Lists P n zs) (sym d.2.0) (subst (λ (j : ℕ). Lists P j d.0) all m.3)
