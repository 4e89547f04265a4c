-- Rows of words, of any number of words.
use Rattle.std.proofs.Common.{◌≡◌, ℕ, zero, suc, ◌+◌, ◌*◌, ◌/◌, ◌%◌, ◌^◌, ◌<◌, ◌≤◌, T, eqb, ◌⊎◌, ◌↔◌, List, length, get_or, set, replicate, sym, ◌∙◌, subst, inl, inr, arith, eqb→eq}
use lib.Bits.{bit_and, bit_or}
use Rattle.std.specs.Int.{bit_at, w64}
use Rattle.std.specs.Fn.{Called}
use Rattle.std.specs.Array.{IsFromFnResultFrom}
use Rattle.std.proofs.lemmas.Nat.{mod_below, and_mask}
use Rattle.std.proofs.lemmas.Nat.Bits.{bit_at-lt, bit_at-zero, bit_at_or, bit_at_set_same, bit_at_set_other}
use Rattle.std.proofs.lemmas.List.{get_or-replicate, get_or-set_other, get_or_past, length-replicate}
use Rattle.std.proofs.lemmas.Grind.{get_or-set_at}
use Rattle.std.proofs.lemmas.Bool.{cases_eq, cases_lt}
use Rattle.graphs.specs.declared.row.Row.{Row}
use Rattle.graphs.specs.Rows.{Has, Holds, vertices}
use denote.Param.Members.{Mut}

-- a number is in a row or not
pub has_or : (words : List ℕ) (x : ℕ) → Has words x ⊎ (¬ (Has words x))
unfolding Has
has_or words x = elim (cases_eq (bit_at (get_or words (x / 64) 0) (x % 64)) 1) [ inl e ↦ inl e | inr n ↦ inr n ]

-- a word that is 0 has no bit
has_no_bit : (words : List ℕ) (x : ℕ) → get_or words (x / 64) 0 ≡ 0 → Has words x → ⊥
unfolding Has
has_no_bit words x e h =
    let z : bit_at 0 (x % 64) ≡ 1 = subst (λ (n : ℕ). bit_at n (x % 64) ≡ 1) e h in
    omega (arith, bit_at-zero (x % 64))

-- past the last word there is no bit
pub has_past : (words : List ℕ) (x : ℕ) → length words ≤ x / 64 → Has words x → ⊥
has_past words x l = has_no_bit words x (get_or_past words (x / 64) 0 l)

pub has_range : (words : List ℕ) (x : ℕ) → Has words x → x < 64 * length words
has_range words x h =
    elim (cases_lt (x / 64) (length words))
    [ inl l ↦ omega arith | inr l ↦ absurd (has_past words x l h) ]

-- words that are all 0
pub has_none : (n x : ℕ) → Has (replicate n 0) x → ⊥
has_none n x =
    elim (cases_lt (x / 64) n) [
      | inl l ↦ has_no_bit (replicate n 0) x (get_or-replicate n (x / 64) 0 0 l)
      | inr l ↦ has_past (replicate n 0) x (simp length-replicate l)
    ]

-- the test of a number in code
pub has_test : (words : List ℕ) (x : ℕ) → T (eqb (bit_and (get_or words (x / 64) 0 / 2 ^ (x % 64)) 1) 1) ↔ Has words x
unfolding Has
has_test words x =
    let low : bit_and (get_or words (x / 64) 0 / 2 ^ (x % 64)) 1 ≡ bit_at (get_or words (x / 64) 0) (x % 64) = and_mask (get_or words (x / 64) 0 / 2 ^ (x % 64)) 1 in (
      (λ t. sym low ∙ eqb→eq (bit_and (get_or words (x / 64) 0 / 2 ^ (x % 64)) 1) 1 t),
      (λ h. subst (λ (n : ℕ). T (eqb n 1)) (sym (low ∙ h)) tt),
    )

-- the words after bit x is set in code
pub marked_has : (words : List ℕ) (x y : ℕ) → x / 64 < length words
    → Has (set words (x / 64) (bit_or (get_or words (x / 64) 0) ((1 * 2 ^ (x % 64)) % 2 ^ 64))) y ↔ (Has words y ⊎ (y ≡ x))
unfolding Has
marked_has words x y inside =
    let low : x % 64 < 64 = mod_below x 64 (omega arith) in
    let same = bit_at_set_same w64 (get_or words (x / 64) 0) (x % 64) low in
    let other = bit_at_set_other w64 (get_or words (x / 64) 0) (x % 64) low (y % 64) in
    grind (arith, get_or-set_at, get_or-set_other)

-- numbers that a closure gave, which calls leave as it is: number i is what it gives at i
from_fn_at : {F : Type 0} {g : Mut F (ℕ × Unit {0}) ℕ} (f : F) (h : ℕ → ℕ) → ((i r : ℕ) (q : F) → Called g f (i, tt) r q → (q ≡ f) × (r ≡ h i))
    → (ys : List ℕ) (n k : ℕ) → IsFromFnResultFrom g f ys k n → (i : ℕ) → k ≤ i → i < k + n → get_or ys i 0 ≡ h i
from_fn_at f h acts ys zero k d i a b = absurd (omega arith)
from_fn_at {F} {g} f h acts ys (suc n) k d i a b =
    let c = acts k d.1 d.0 d.3 in
    elim (cases_eq i k) [
      | inl e ↦ subst (λ (m : ℕ). get_or ys m 0 ≡ h m) (sym e) (d.2.1 0 ∙ c.1)
      | inr e ↦ from_fn_at f h acts ys n (k + 1) (subst (λ (q : F). IsFromFnResultFrom g q ys (k + 1) n) c.0 d.4) i (omega (arith, e)) (omega arith)
    ]

-- n words that a closure gave, each that of a and that of b joined
pub joined_has : {F : Type 0} {g : Mut F (ℕ × Unit {0}) ℕ} (f : F) (a b words : List ℕ) (n : ℕ)
    → ((i r : ℕ) (q : F) → Called g f (i, tt) r q → (q ≡ f) × (r ≡ bit_or (get_or a i 0) (get_or b i 0)))
    → IsFromFnResultFrom g f words 0 n → (x : ℕ) → x / 64 < n → Has words x ↔ (Has a x ⊎ Has b x)
unfolding Has
joined_has f a b words n acts d x inside =
    let e = from_fn_at f (λ (i : ℕ). bit_or (get_or a i 0) (get_or b i 0)) acts words n 0 d (x / 64) (omega arith) (omega arith) in
    let m = bit_at_or (get_or a (x / 64) 0) (get_or b (x / 64) 0) (x % 64) in
    let j = bit_at-lt (get_or a (x / 64) 0) (x % 64) in
    let k = bit_at-lt (get_or b (x / 64) 0) (x % 64) in
    grind arith

pub holds_range : (row : Row) (x : ℕ) → Holds row x → x < vertices
unfolding Holds
holds_range row x h = h.0

-- a vertex is in a row or not
pub holds_or : (row : Row) (x : ℕ) → Holds row x ⊎ (¬ (Holds row x))
unfolding Holds
holds_or row x =
    elim (cases_lt x vertices) [
      | inl l ↦ elim (has_or row.words x) [ inl h ↦ inl (l, h) | inr n ↦ inr (λ h. n h.1) ]
      | inr l ↦ inr (λ h. omega (arith, h.0))
    ]
