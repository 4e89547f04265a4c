-- Positions are places: each order can be written out as a list, and counting the copies before a copy gives its place there.
use Rattle.std.proofs.Common.{◌≡◌, ℕ, zero, suc, ◌+◌, ◌<◌, ◌≤◌, Bool, ◌≢◌, ◌⊎◌, ◌↔◌, List, [], ◌∷◌, ◌++◌, length, get_or, sym, refl, ap, ◌∙◌, subst, inl, inr, arith}
use Rattle.model.specs.Forests.{Chain, stop, up, Falls}
use Rattle.model.specs.Specifications.{Spec}
use Rattle.model.specs.Runs.{Run}
use Rattle.model.specs.Orders.{Sooner, Before, Position}
use Rattle.model.specs.Listings.{Stands, Child, Children, Laid, nothing, copy, Listing}
use Rattle.model.specs.Laws.{Written}
use Rattle.std.proofs.lemmas.Bool.{cases_eq, cases_lt}
use Rattle.model.proofs.Cases.{cases, zero_or}
use Rattle.model.proofs.Chains.{chain_le, chain_eq, chain_join, chain_child, child_pos, above_zero}
use Rattle.model.proofs.Lists.{In, first, later, is_first, in_none, in_cons, in_left, in_right, in_append, place_in, in_place}
use Rattle.model.proofs.Lists.{Rising, empty, more, rising_append, rising_places, places_rising}
use Rattle.model.proofs.Counts.{count_all, count_one, count_iff, count_places}
use Rattle.model.proofs.Orders.{sooner_join, sooner_total, branch, before_never, before_join, position_one}
use Rattle.std.proofs.lemmas.List.{ext_get_or}

module _ (sp : Spec) (r : Run) (o : ℕ → Bool) (tree : Falls r.parent) where
  -- k comes sooner than k', under one copy
  record Abreast (k k' : ℕ) : Type 0 where
    left_above : 0 < k
    right_above : 0 < k'
    one_parent : r.parent k ≡ r.parent k'
    comes : Sooner sp r o k k'

  abreast : {i : ℕ} {ks : List ℕ} → Children sp r o i ks → Rising Abreast ks
  abreast {i} {ks} c = places_rising ks λ q q' k k' a b h.
      let x = c.only_children q k a in
      let y = c.only_children q' k' b in
      record {
        left_above = x.not_whole;
        right_above = y.not_whole;
        one_parent = x.directly ∙ sym y.directly;
        comes = c.in_order q q' k k' a b h;
      }

  -- x lies under one of the copies in the list, or is one
  abbrev Under : ℕ → List ℕ → Type 0
  Under x is = (k : ℕ) × In k is × Chain r.parent x k

  -- the list holds copies of the run
  abbrev Copies : List ℕ → Type 0
  Copies is = (k : ℕ) → In k is → k < r.c

  children_copies : {i : ℕ} {ks : List ℕ} → Children sp r o i ks → Copies ks
  children_copies c k h = let w = in_place h in (c.only_children w.0 k w.1).in_run

  child_under : {i x : ℕ} {ks : List ℕ} → Children sp r o i ks → Under x ks → Chain r.parent x i × (i ≢ x)
  child_under {i} {x} {ks} c u =
      let w = in_place u.1 in
      let d = c.only_children w.0 u.0 w.1 in (
        chain_join u.2 (up (chain_eq d.directly)),
        λ e. omega (arith, e, chain_le tree u.2, tree.falls u.0 d.not_whole, d.directly),
      )

  -- Laying out copies lists exactly what lies under them, the copies included: nothing else ..
  laid_under : {is l : List ℕ} → Laid sp r o is l → Copies is → (x : ℕ) → In x l → Under x is × (x < r.c)
  laid_under nothing h x a = absurd (in_none a)
  laid_under (copy {i} {ks} {below} {is} {rest} c b d) h x a = cases (in_cons a)
      (λ e. ((i, first, chain_eq e), subst (λ z. z < r.c) (sym e) (h i first)))
      (λ a'. cases (in_append below a')
      (λ y. let w = laid_under b (children_copies c) x y in ((i, first, (child_under c w.0).0), w.1))
      (λ y. let w = laid_under d (λ k z. h k (later z)) x y in ((w.0.0, later w.0.1, w.0.2), w.1)))

  -- .. and all of it
  under_laid : {is l : List ℕ} → Laid sp r o is l → (x : ℕ) → x < r.c → Under x is → In x l
  under_laid nothing x h u = absurd (in_none u.1)
  under_laid (copy {i} {ks} {below} {is} {rest} c b d) x h u = cases (in_cons u.1)
      (λ e. cases (chain_child u.2)
      (λ e'. is_first (e' ∙ e))
      (λ k.
      let z : 0 < k.0 = child_pos tree k.2 k.3 in
      let w = c.all_children k.0 (record { in_run = omega (arith, chain_le tree k.1); not_whole = z; directly = k.2 ∙ e }) in
      later (in_left rest (under_laid b x h (k.0, place_in ks w.0 w.1, k.1)))))
      (λ y. later (in_right below (under_laid d x h (u.0, y, u.2))))

  -- laying out copies that come one after the other lists what lies under them in the order
  laid_rising : {is l : List ℕ} → Laid sp r o is l → Copies is → Rising Abreast is → Rising (Before sp r o) l
  laid_rising nothing h a = empty
  laid_rising (copy {i} {ks} {below} {is} {rest} c b d) h (more f a) = more
      (λ y q. cases (in_append below q) (λ q'. inl (under y q')) (λ q'. beside i y stop q'))
      (rising_append (laid_rising b (children_copies c) (abreast c)) (laid_rising d others a) (λ x y p q. beside x y (under x p).0 q))
    where
      others : Copies is
      others k z = h k (later z)

      under : (y : ℕ) → In y below → Chain r.parent y i × (i ≢ y)
      under y q = child_under c (laid_under b (children_copies c) y q).0

      beside : (x y : ℕ) → Chain r.parent x i → In y rest → Before sp r o x y
      beside x y p q =
          let u = (laid_under d others y q).0 in
          let g = f u.0 u.1 in
          branch sp r o
          (record { left = p; right = u.2; left_pos = g.left_above; right_pos = g.right_above; same_parent = g.one_parent })
          g.comes

  -- what an order written out holds, and where
  module _ {l : List ℕ} (w : Listing sp r o l) (some : 0 < r.c) where
    only_zero : Copies (0 ∷ [])
    only_zero k h = cases (in_cons h) (λ e. omega arith) (λ a. absurd (in_none a))

    place_range : (q i : ℕ) → Stands l q i → i < r.c
    place_range q i h = (laid_under w only_zero i (place_in l q h)).1

    place_of : (i : ℕ) → i < r.c → (q : ℕ) × Stands l q i
    place_of i h = in_place (under_laid w i h (0, first, above_zero tree i))

    place_before : (q q' i i' : ℕ) → Stands l q i → Stands l q' i' → q < q' → Before sp r o i i'
    place_before = rising_places (laid_rising w only_zero (more (λ y h. absurd (in_none h)) empty))

    places_differ : (p p' : ℕ) → p < p' → p' < length l → get_or l p 0 ≢ get_or l p' 0
    places_differ p p' h h' e = before_never sp r o tree (get_or l p 0)
        (place_before p p' (get_or l p 0) (get_or l p 0) (omega arith, refl) (h', sym e) h)

    -- the copies before the one at place q are those at the places before q
    place_position : (i q : ℕ) → Stands l q i → Position sp r o i q
    place_position i q h = count_iff
        (λ j lj a. place_before a.0 q j i (omega (arith, a.1, h.0), a.2) h a.1)
        (λ j lj b. let p = place_of j lj in (p.0, earlier j b p.0 p.1, p.1.1))
        (count_places (λ p. get_or l p 0) r.c q
        (λ p lp. place_range p (get_or l p 0) (omega (arith, h.0), refl))
        (λ p p' lp lp'. places_differ p p' lp (omega (arith, h.0))))
      where
        earlier : (j : ℕ) → Before sp r o j i → (p : ℕ) → Stands l p j → p < q
        earlier j b p s = cases (cases_lt p q) (λ x. x) λ x. cases (cases_eq q p)
            (λ e.
            let same : j ≡ i = sym s.1 ∙ ap (λ p. get_or l p 0) (sym e) ∙ h.1 in
            absurd (before_never sp r o tree i (subst (λ z. Before sp r o z i) same b)))
            (λ d. absurd (before_never sp r o tree i (before_join sp r o tree i j i (place_before q p i j h s (omega arith)) b)))

    place_is : (i q : ℕ) → i < r.c → Position sp r o i q ↔ Stands l q i
    place_is i q h = (there, place_position i q)
      where
        there : Position sp r o i q → Stands l q i
        there a =
            let p = place_of i h in
            let same : p.0 ≡ q = position_one sp r o tree i p.0 q (place_position i p.0 p.1) a in
            subst (λ z. Stands l z i) same p.1

    listing_length : length l ≡ r.c
    listing_length = count_one
        (count_iff (λ j lj a. tt) (λ j lj a. let p = place_of j lj in (p.0, p.1.0, p.1.1))
        (count_places (λ p. get_or l p 0) r.c (length l) (λ p lp. place_range p (get_or l p 0) (lp, refl)) places_differ))
        (count_all r.c)

  one_listing : {l l' : List ℕ} → Listing sp r o l → Listing sp r o l' → 0 < r.c → l ≡ l'
  one_listing {l} {l'} w w' h = ext_get_or 0 l l' (listing_length w h ∙ sym (listing_length w' h)) λ q lq.
      let a : Stands l q (get_or l q 0) = (lq, refl) in
      sym ((place_is w' h (get_or l q 0) q (place_range w h q (get_or l q 0) a)).0 (place_position w h (get_or l q 0) q a)).1

  -- writing an order out

  abbrev Soon : ℕ → ℕ → Type 0
  Soon = Sooner sp r o

  -- the list with k put where it belongs
  insert : (k : ℕ) {ks : List ℕ} → Rising Soon ks → (¬ (In k ks))
      → (l : List ℕ) × Rising Soon l × ((x : ℕ) → In x l ↔ ((x ≡ k) ⊎ In x ks))
  insert k empty g = ((k ∷ []), more (λ y h. absurd (in_none h)) empty, λ x. (in_cons, λ a. cases a is_first later))
  insert k {ks = y ∷ ys} (more f a) g = cases (sooner_total sp r o {s = k} {t = y} (λ e. g (is_first e)))
      (λ h. (
        (k ∷ (y ∷ ys)),
        more (λ x i. cases (in_cons i) (λ e. subst (λ z. Soon k z) (sym e) h) (λ i'. sooner_join sp r o h (f x i'))) (more f a),
        λ x. (in_cons, λ i. cases i is_first later),
      ))
      (λ h.
      let w = insert k a (λ i. g (later i)) in (
        (y ∷ w.0),
        more (λ x i. cases ((w.2 x).0 i) (λ e. subst (λ z. Soon y z) (sym e) h) (f x)) w.1,
        λ x. (
          (λ i. cases (in_cons i)
              (λ e. inr (is_first e))
              (λ i'. cases ((w.2 x).0 i') inl (λ i''. inr (later i'')))),
          (λ i. cases i
              (λ e. later ((w.2 x).1 (inl e)))
              (λ i'. cases (in_cons i') is_first (λ i''. later ((w.2 x).1 (inr i''))))),
        ),
      ))

  child_or : (i k : ℕ) → k < r.c → Child r i k ⊎ (¬ (Child r i k))
  child_or i k h = cases (zero_or k)
      (λ z. inr (λ c. omega (arith, z, c.not_whole)))
      (λ z. cases (cases_eq (r.parent k) i)
      (λ e. inl (record { in_run = h; not_whole = z; directly = e }))
      (λ d. inr (λ c. d c.directly)))

  -- the children of i that are numbered below m, in order
  children_below : (i m : ℕ) → m ≤ r.c → (ks : List ℕ) × Rising Soon ks × ((x : ℕ) → In x ks ↔ (Child r i x × (x < m)))
  children_below i zero h = ([], empty, λ x. ((λ a. absurd (in_none a)), λ a. absurd (omega (arith, a.1))))
  children_below i (suc m) h =
      let w = children_below i m (omega arith) in
      cases (child_or i m (omega arith))
      (λ c.
      let l = insert m w.1 (λ a. omega (arith, ((w.2 m).0 a).1)) in (
        l.0,
        l.1,
        λ x. (
          (λ a. cases ((l.2 x).0 a)
              (λ e. (subst (λ z. Child r i z) (sym e) c, omega arith))
              (λ b. let d = (w.2 x).0 b in (d.0, omega (arith, d.1)))),
          (λ a. (l.2 x).1 (cases (cases_eq x m) inl (λ d. inr ((w.2 x).1 (a.0, omega (arith, a.1)))))),
        ),
      ))
      (λ g. (
        w.0,
        w.1,
        λ x. (
          (λ a. let d = (w.2 x).0 a in (d.0, omega (arith, d.1))),
          (λ a. (w.2 x).1 (a.0, cases (cases_eq x m) (λ e. absurd (g (subst (λ z. Child r i z) e a.0))) (λ d. omega (arith, a.1)))),
        ),
      ))

  children_of : (i : ℕ) → (ks : List ℕ) × Children sp r o i ks
  children_of i =
      let w = children_below i r.c (omega arith) in (
        w.0,
        record {
          only_children = λ q k a. ((w.2 k).0 (place_in w.0 q a)).0;
          all_children = λ k c. in_place ((w.2 k).1 (c, c.in_run));
          in_order = rising_places w.1;
        },
      )

  -- copies numbered from c - m on
  abbrev High : ℕ → List ℕ → Type 0
  High m is = (k : ℕ) → In k is → (k < r.c) × (r.c ≤ k + m)

  -- children have higher numbers, so the recursion ends
  laid_step : (m : ℕ) → ((ks : List ℕ) → High m ks → (l : List ℕ) × Laid sp r o ks l)
      → (is : List ℕ) → High (suc m) is → (l : List ℕ) × Laid sp r o is l
  laid_step m on [] h = ([], nothing)
  laid_step m on (i ∷ is) h =
      let c = children_of i in
      let b = on c.0 (λ k a.
      let p = in_place a in
      let d = c.1.only_children p.0 k p.1 in
      (d.in_run, omega (arith, (h i first).1, tree.falls k d.not_whole, d.directly))) in
      let d = laid_step m on is (λ k a. h k (later a)) in
      (i ∷ (b.0 ++ d.0), copy c.1 b.1 d.1)

  laid_of : (m : ℕ) (is : List ℕ) → High m is → (l : List ℕ) × Laid sp r o is l
  laid_of zero [] h = ([], nothing)
  laid_of zero (i ∷ is) h = let a = h i first in absurd (omega (arith, a.0, a.1))
  laid_of (suc m) is h = laid_step m (laid_of m) is h

  listing_of : 0 < r.c → (l : List ℕ) × Listing sp r o l
  listing_of h = laid_of r.c (0 ∷ []) (λ k a. cases (in_cons a) (λ e. (omega arith, omega arith)) (λ b. absurd (in_none b)))

pub written : (s : Spec) (r : Run) (o : ℕ → Bool) → Falls r.parent → 0 < r.c → Written s r o
written s r o tree h = record {
  some_listing = listing_of s r o tree h;
  one_listing = λ l l' w w'. one_listing s r o tree w w' h;
  as_long = λ l w. listing_length s r o tree w h;
  position_place = λ l w. place_is s r o tree w h;
}
