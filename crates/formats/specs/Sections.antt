-- Sections: two parallel arrays, the first numbers of all records and then their second numbers.
use Rattle.std.specs.Prelude.{◌≡◌, ℕ, ◌+◌, ◌-◌, ◌*◌, ◌<◌, cond, ◌⊎◌, List, map, nat_lt}
use Rattle.std.specs.List.{range_with_len}
use Rattle.formats.specs.Words.{word}
use Rattle.records.specs.Kinds.{Kind, Within}
use Rattle.records.specs.declared.record.Bounds.{Bounds}

-- byte positions of the two numbers of record i, in a section of `count` records from byte `base`
abbrev pub first_at : ℕ → ℕ → ℕ → ℕ
first_at base count i = base + 2 * i

abbrev pub second_at : ℕ → ℕ → ℕ → ℕ
second_at base count i = base + 2 * (count + i)

-- record i of a section, `made` of its two numbers
abbrev pub stated : {R : Type 0} → (ℕ → ℕ → R) → List ℕ → ℕ → ℕ → ℕ → R
stated made bytes base count i = made (word bytes (first_at base count i)) (word bytes (second_at base count i))

-- the records of a section
abbrev pub section : {R : Type 0} → (ℕ → ℕ → R) → List ℕ → ℕ → ℕ → List R
section made bytes base count = map (stated made bytes base count) (range_with_len 0 count)

-- p is the lowest number of which P holds
abbrev pub Lowest : (ℕ → Type 0) → ℕ → Type 0
Lowest P p = P p × ((q : ℕ) → q < p → ¬ (P q))

-- the two numbers of record i lie in their ranges
abbrev pub FirstWithin : Kind → Bounds → List ℕ → ℕ → ℕ → ℕ → Type 0
FirstWithin k w bytes base count i = Within (k.firsts w i) (word bytes (first_at base count i))

abbrev pub SecondWithin : Kind → Bounds → List ℕ → ℕ → ℕ → ℕ → Type 0
SecondWithin k w bytes base count i = Within (k.seconds w i) (word bytes (second_at base count i))

-- p is the byte position of a number of the section that lies outside its range
pub data Outside (k : Kind) (w : Bounds) (bytes : List ℕ) (base count p : ℕ) : Type 0 where
  first_out : (i : ℕ) → i < count → p ≡ first_at base count i → (¬ (FirstWithin k w bytes base count i)) → Outside k w bytes base count p
  second_out : (i : ℕ) → i < count → p ≡ second_at base count i → (¬ (SecondWithin k w bytes base count i)) → Outside k w bytes base count p

-- number k of the section, the first numbers of all records and then their second numbers, lies in its range
abbrev pub NumberWithin : Kind → Bounds → List ℕ → ℕ → ℕ → ℕ → Type 0
NumberWithin k w bytes base count n = Within (cond (nat_lt n count) (k.firsts w n) (k.seconds w (n - count))) (word bytes (base + 2 * n))

-- every number of the section lies in its range
pub record Inside (k : Kind) (w : Bounds) (bytes : List ℕ) (base count : ℕ) : Type 0 where
  pub firsts_in : (i : ℕ) → i < count → FirstWithin k w bytes base count i
  pub seconds_in : (i : ℕ) → i < count → SecondWithin k w bytes base count i

-- record i is above record i - 1: by its first number, or by its second where the first numbers are equal
abbrev pub Ascends : List ℕ → ℕ → ℕ → ℕ → Type 0
Ascends bytes base count i =
    (word bytes (first_at base count (i - 1)) < word bytes (first_at base count i))
    ⊎ ((word bytes (first_at base count (i - 1)) ≡ word bytes (first_at base count i)) × (word bytes (second_at base count (i - 1)) < word bytes (second_at base count i)))

-- each record but 0 is above the record before it
abbrev pub Ascending : List ℕ → ℕ → ℕ → Type 0
Ascending bytes base count = (i : ℕ) → 0 < i → i < count → Ascends bytes base count i

-- p is the byte position of the first number of a record but 0 that is not above the record before it
abbrev pub Unordered : List ℕ → ℕ → ℕ → ℕ → Type 0
Unordered bytes base count p = (i : ℕ) × (0 < i) × (i < count) × (p ≡ first_at base count i) × (¬ (Ascends bytes base count i))
