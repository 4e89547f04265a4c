-- Groups found by comparing copies, and a table of them filled copy by copy.
use Rattle.std.proofs.Common.{◌≡◌, ℕ, ◌+◌, ◌<◌, ◌≤◌, Bool, true, false, not, T, ◌≢◌, ◌↔◌, List, Option, None, Some, MatchOption, length, get_or, set, arith, length-set, get_or-set_other, get_or-set_same, below_more}
use Rattle.model.specs.Runs.{Run, Mate, First}
use Rattle.std.proofs.lemmas.Bool.{cases_lt}
use Rattle.model.proofs.Cases.{cases}
use Rattle.conformance.specs.Groups.{Alike, NextOrLast, GroupPlace, no_place}
use Rattle.conformance.specs.declared.group_table.Place.{Place}

-- the lowest copy above q that is like it is the next of its group
pub next_or_last : (r : Run) (q n : ℕ) (o : Option ℕ) → n ≡ r.c
    → MatchOption o ((k : ℕ) → q + 1 ≤ k → k < n → ¬ (Alike r q k)) (λ i. (q + 1 ≤ i) × (i < n) × Alike r q i × ((k : ℕ) → q + 1 ≤ k → k < i → ¬ (Alike r q k)))
    → NextOrLast r q o
next_or_last r q n None e h = λ j m. cases (cases_lt q j) (λ l. absurd (h j (omega arith) (omega (arith, m.exists)) (m.one_parent, m.one_block))) (λ x. x)
next_or_last r q n (Some i) e h = record {
  mate = record { exists = omega (arith, h.1); not_zero = omega (arith, h.0); one_parent = h.2.0; one_block = h.2.1 };
  later = omega (arith, h.0);
  none_between = λ j m l. cases (cases_lt j i) (λ b. absurd (h.3 j (omega arith) b (m.one_parent, m.one_block))) (λ x. x);
}

-- a copy with none below it that is like it is the first of its group
pub first_where : (r : Run) (q : ℕ) (b : Bool) → q < r.c → T b ↔ ((k : ℕ) × (1 ≤ k) × (k < q) × Alike r q k) → T (not b) ↔ First r q
first_where r q true l h = (
  λ t. absurd t,
  λ f.
      let k = h.0 tt in
      let m : Mate r q k.0 = record { exists = omega (arith, k.2); not_zero = omega (arith, k.1); one_parent = k.3.0; one_block = k.3.1 } in
      absurd (omega (arith, k.2, f k.0 m)),
)
first_where r q false l h = (
  λ _ j m. cases (cases_lt j q) (λ b. absurd (h.1 (j, omega (arith, m.not_zero), b, (m.one_parent, m.one_block)))) (λ x. x),
  λ _. tt,
)

-- a list of n places tells the place of each copy but 0 and below q
pub record Placing (n : ℕ) (r : Run) (places : List Place) (q : ℕ) : Type 0 where
  pub long : length places ≡ n
  pub placed : (i : ℕ) → i < q → 0 < i → GroupPlace r i (get_or places i no_place)

pub placing_more : {n : ℕ} {r : Run} {places : List Place} (q : ℕ) (place : Place) → Placing n r places q → q < n → GroupPlace r q place → Placing n r (set places q place) (q + 1)
placing_more {n} {r} {places} q place p h g = record {
  long = simp length-set p.long;
  placed = below_more (λ (i : ℕ). 0 < i → GroupPlace r i (get_or (set places q place) i no_place)) q
      (λ i l z. let other : i ≢ q = omega arith in rw (get_or-set_other places q i place no_place other) (p.placed i l z))
      (λ z. let a : q < length places = omega (arith, p.long) in rw (get_or-set_same places q place no_place a) g);
}
