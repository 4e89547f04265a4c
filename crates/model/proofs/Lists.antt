-- Lists of numbers: what is in a list, at which place, and lists that rise in a relation. The orders written out are such lists.
use Rattle.std.proofs.Common.{◌≡◌, ℕ, zero, suc, ◌<◌, ◌⊎◌, List, [], ◌∷◌, ◌++◌, sym, refl, subst, inl, inr, arith}
use Rattle.model.specs.Listings.{Stands}
use Rattle.model.proofs.Cases.{cases}

-- x is in the list
pub data In (x : ℕ) : List ℕ → Type 0 where
  first : {l : List ℕ} → In x (x ∷ l)
  later : {y : ℕ} {l : List ℕ} → In x l → In x (y ∷ l)

pub in_none : {x : ℕ} → In x [] → ⊥
in_none h = elim h [ ]

pub is_first : {x y : ℕ} {l : List ℕ} → x ≡ y → In x (y ∷ l)
is_first {x} {y} {l} e = subst (λ z. In z (y ∷ l)) (sym e) first

pub in_cons : {x y : ℕ} {l : List ℕ} → In x (y ∷ l) → (x ≡ y) ⊎ In x l
in_cons first = inl refl
in_cons (later h) = inr h

pub in_left : {x : ℕ} {l : List ℕ} (m : List ℕ) → In x l → In x (l ++ m)
in_left m first = first
in_left m (later h) = later (in_left m h)

pub in_right : {x : ℕ} (l : List ℕ) {m : List ℕ} → In x m → In x (l ++ m)
in_right [] h = h
in_right (y ∷ l) h = later (in_right l h)

pub in_append : {x : ℕ} (l : List ℕ) {m : List ℕ} → In x (l ++ m) → In x l ⊎ In x m
in_append [] h = inr h
in_append (y ∷ l) first = inl first
in_append (y ∷ l) (later h) = cases (in_append l h) (λ a. inl (later a)) inr

-- what is in a list stands at a place of it

pub place_in : {x : ℕ} (l : List ℕ) (q : ℕ) → Stands l q x → In x l
place_in [] q h = absurd (omega (arith, h.0))
place_in (y ∷ l) zero h = is_first (sym h.1)
place_in (y ∷ l) (suc q) h = later (place_in l q (omega (arith, h.0), h.1))

pub in_place : {x : ℕ} {l : List ℕ} → In x l → (q : ℕ) × Stands l q x
in_place first = (0, (omega arith, refl))
in_place (later h) = let w = in_place h in (suc w.0, (omega (arith, w.1.0), w.1.1))

-- every element stands in the relation R to all that come after it
pub data Rising (R : ℕ → ℕ → Type 0) : List ℕ → Type 0 where
  empty : Rising R []
  more : {x : ℕ} {l : List ℕ} → ((y : ℕ) → In y l → R x y) → Rising R l → Rising R (x ∷ l)

pub rising_append : {R : ℕ → ℕ → Type 0} {l m : List ℕ} → Rising R l → Rising R m → ((x y : ℕ) → In x l → In y m → R x y)
    → Rising R (l ++ m)
rising_append empty b f = b
rising_append {l = x ∷ l} (more h a) b f = more
    (λ y i. cases (in_append l i) (h y) (f x y first))
    (rising_append a b (λ x y i. f x y (later i)))

-- a list rises where each place stands in the relation to each later place

pub rising_places : {R : ℕ → ℕ → Type 0} {l : List ℕ} → Rising R l → (q q' k k' : ℕ) → Stands l q k → Stands l q' k' → q < q' → R k k'
rising_places empty q q' k k' a b h = absurd (omega (arith, b.0))
rising_places (more f r) q zero k k' a b h = absurd (omega arith)
rising_places {R} {l = x ∷ l} (more f r) zero (suc q') k k' a b h =
    subst (λ z. R z k') a.1 (f k' (place_in l q' (omega (arith, b.0), b.1)))
rising_places (more f r) (suc q) (suc q') k k' a b h =
    rising_places r q q' k k' (omega (arith, a.0), a.1) (omega (arith, b.0), b.1) (omega arith)

pub places_rising : {R : ℕ → ℕ → Type 0} (l : List ℕ) → ((q q' k k' : ℕ) → Stands l q k → Stands l q' k' → q < q' → R k k') → Rising R l
places_rising [] f = empty
places_rising (x ∷ l) f = more
    (λ y i. let w = in_place i in f 0 (suc w.0) x y (omega arith, refl) (omega (arith, w.1.0), w.1.1) (omega arith))
    (places_rising l (λ q q' k k' a b h. f (suc q) (suc q') k k' (omega (arith, a.0), a.1) (omega (arith, b.0), b.1) (omega arith)))
