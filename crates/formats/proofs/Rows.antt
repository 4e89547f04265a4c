-- A section's rows, each at its place, and pushed to a table one by one.
use Rattle.std.proofs.Common.{◌≡◌, ℕ, ◌+◌, ◌<◌, ◌≤◌, List, [], ◌∷◌, ◌++◌, map, length, get_or, ◌∙◌, arith, Result, Ok, Err, IsOk, OnOk, true, false, ◌↔◌}
use Rattle.std.specs.List.{range_with_len}
use Rattle.std.proofs.lemmas.List.FromFn.{length-map-range_with_len, get_or-map-range_with_len, map-range_with_len_more}
use Rattle.std.proofs.lemmas.List.{get_or_past}
use Rattle.formats.specs.Sections.{stated, section}

pub section_length : {R : Type 0} (made : ℕ → ℕ → R) (bytes : List ℕ) (base count : ℕ) → length (section made bytes base count) ≡ count
section_length made bytes base count = length-map-range_with_len (stated made bytes base count) 0 count

pub section_at : {R : Type 0} (made : ℕ → ℕ → R) (bytes : List ℕ) (base count i : ℕ) (d : R) → i < count → get_or (section made bytes base count) i d ≡ stated made bytes base count i
section_at made bytes base count i d h = get_or-map-range_with_len (stated made bytes base count) 0 count i i d h (omega arith)

pub section_past : {R : Type 0} (made : ℕ → ℕ → R) (bytes : List ℕ) (base count i : ℕ) (d : R) → count ≤ i → get_or (section made bytes base count) i d ≡ d
section_past made bytes base count i d h = get_or_past (section made bytes base count) i d (omega (arith, section_length made bytes base count))

-- rows copied from a section, where the section is known under other names
pub rows_as : {R : Type 0} (made : ℕ → ℕ → R) {rows : List R} {bytes bytes' : List ℕ} {base base' count count' : ℕ} → rows ≡ section made bytes base count
    → (bytes ≡ bytes') × (base ≡ base') × (count ≡ count') → rows ≡ section made bytes' base' count'
rows_as made r e =
    let a = e.0 in
    let b = e.1 in
    let c = e.2 in
    r ∙ rw (a, b, c)

-- a table of `limit` places that holds the first i rows takes the next
pub row_more : {R : Type 0} (row : ℕ → R) (i limit : ℕ) {len len' : ℕ} {rows rows' : List R} {x : R} (pushed : Result (Unit {0}) R)
    → len ≡ i → rows ≡ map row (range_with_len 0 i) → i < limit → x ≡ row i
    → IsOk pushed ↔ (len < limit) → OnOk pushed ((len' ≡ len + 1) × (rows' ≡ rows ++ (x ∷ [])))
    → (len' ≡ i + 1) × (rows' ≡ map row (range_with_len 0 (i + 1)))
row_more row i limit (Ok u) at_i so_far room next fits taken =
    let m = map-range_with_len_more row 0 i i (omega arith) in
    (omega (arith, taken.0), cc (taken.1, m))
row_more row i limit (Err y) at_i so_far room next fits taken =
    let no : false ≡ true = fits.1 (omega arith) in
    cc
