-- The refusals of a file exclude each other.
use Rattle.std.proofs.Common.{◌≡◌, ℕ, List, refl, ap, inl, inr, arith}
use Rattle.std.proofs.lemmas.Bool.{cases_lt, cases_eq}
use Rattle.records.specs.Kinds.{Kind}
use Rattle.formats.specs.Deciding.{ReadingLaw, RunReadingLaw}
use Rattle.formats.specs.Files.{Format, BadSizeOf, bad_first, bad_second, bad_third, SizesFitOf, RefusedOf, too_short, bad_size, bad_length, out_of_range, out_of_order, AcceptedOf, DecidedOf}
use Rattle.formats.specs.RunFiles.{run_format, RunInside, RunNumberOutside, of_copies, of_steps, of_run_edges}
use Rattle.formats.specs.Sections.{Lowest, Unordered}
use Rattle.formats.specs.SpecFiles.{spec_format, AllInside, NumberOutside, of_edges, of_vertices, of_nests, of_ends}
use Rattle.formats.specs.declared.faults.Fault.{Fault}
use Rattle.formats.proofs.Ranges.{none_outside}

pub lowest_one : (P : ℕ → Type 0) {p q : ℕ} → Lowest P p → Lowest P q → p ≡ q
lowest_one P {p} {q} a b = elim (cases_lt p q) [
  | inl h ↦ absurd (b.1 p h a.0)
  | inr h ↦ elim (cases_eq p q) [ inl e ↦ e | inr n ↦ absurd (a.1 q (omega (arith, n)) b.0) ]
]

module _ {j k l : Kind} {bytes : List ℕ} where
  size_one : {p q : ℕ} → BadSizeOf j k l bytes p → BadSizeOf j k l bytes q → p ≡ q
  size_one (bad_first a) (bad_first b) = refl
  size_one (bad_first a) (bad_second b c) = absurd (a b)
  size_one (bad_first a) (bad_third b c d) = absurd (a b)
  size_one (bad_second a b) (bad_first c) = absurd (c a)
  size_one (bad_second a b) (bad_second c d) = refl
  size_one (bad_second a b) (bad_third c d e) = absurd (b d)
  size_one (bad_third a b c) (bad_first d) = absurd (d a)
  size_one (bad_third a b c) (bad_second d e) = absurd (e b)
  size_one (bad_third a b c) (bad_third d e f) = refl

  pub sizes_bad : {i : ℕ} → SizesFitOf j k l bytes → BadSizeOf j k l bytes i → ⊥
  sizes_bad s (bad_first a) = a s.0
  sizes_bad s (bad_second a b) = b s.1
  sizes_bad s (bad_third a b c) = c s.2

-- where a file whose numbers all lie in their ranges has none outside
module _ (t : Format) (bytes : List ℕ) (none : (p : ℕ) → t.AllIn bytes → t.OutAt bytes p → ⊥) where
  one : {f g : Fault} → RefusedOf t bytes f → RefusedOf t bytes g → f ≡ g
  one (too_short a) (too_short b) = refl
  one (too_short a) (bad_size b c) = absurd (omega arith)
  one (too_short a) (bad_length b c d) = absurd (omega arith)
  one (too_short a) (out_of_range b c) = absurd (omega (arith, b.0))
  one (too_short a) (out_of_order b c d) = absurd (omega (arith, b.0))
  one (bad_size a b) (too_short c) = absurd (omega arith)
  one (bad_size a b) (bad_size c d) = ap (λ i. record { layer = 1; number = 2; place = i }) (size_one b d)
  one (bad_size a b) (bad_length c d e) = absurd (sizes_bad d b)
  one (bad_size a b) (out_of_range c d) = absurd (sizes_bad c.1 b)
  one (bad_size a b) (out_of_order c d e) = absurd (sizes_bad c.1 b)
  one (bad_length a b c) (too_short d) = absurd (omega arith)
  one (bad_length a b c) (bad_size d e) = absurd (sizes_bad b e)
  one (bad_length a b c) (bad_length d e f) = refl
  one (bad_length a b c) (out_of_range d e) = absurd (c d.2)
  one (bad_length a b c) (out_of_order d e f) = absurd (c d.2)
  one (out_of_range a b) (too_short c) = absurd (omega (arith, a.0))
  one (out_of_range a b) (bad_size c d) = absurd (sizes_bad a.1 d)
  one (out_of_range a b) (bad_length c d e) = absurd (e a.2)
  one (out_of_range a b) (out_of_range c d) = ap (λ p. record { layer = 1; number = 4; place = p }) (lowest_one (t.OutAt bytes) b d)
  one (out_of_range a b) (out_of_order c d e) = absurd (none _ d b.0)
  one (out_of_order a b c) (too_short d) = absurd (omega (arith, a.0))
  one (out_of_order a b c) (bad_size d e) = absurd (sizes_bad a.1 e)
  one (out_of_order a b c) (bad_length d e f) = absurd (f a.2)
  one (out_of_order a b c) (out_of_range d e) = absurd (none _ b e.0)
  one (out_of_order a b c) (out_of_order d e f) = ap (λ p. record { layer = 1; number = 5; place = p }) (lowest_one (Unordered bytes (t.base bytes) (t.count bytes)) c f)

  both : {f : Fault} → AcceptedOf t bytes → RefusedOf t bytes f → ⊥
  both a (too_short b) = omega (arith, a.framed.0)
  both a (bad_size b c) = sizes_bad a.framed.1 c
  both a (bad_length b c d) = d a.framed.2
  both a (out_of_range b c) = none _ a.inside c.0
  both a (out_of_order b c d) = d.0.4 (a.ascending d.0.0 d.0.1 d.0.2)

  decided : DecidedOf t bytes
  decided = record { never_both = λ a f. both a; one_fault = λ f g. one }

spec_in : {bytes : List ℕ} {p : ℕ} → AllInside bytes → NumberOutside bytes p → ⊥
spec_in a (of_edges o) = none_outside a.edges_inside o
spec_in a (of_vertices o) = none_outside a.vertices_inside o
spec_in a (of_nests o) = none_outside a.nests_inside o
spec_in a (of_ends o) = none_outside a.ends_inside o

run_in : {n b : ℕ} {bytes : List ℕ} {p : ℕ} → RunInside n b bytes → RunNumberOutside n b bytes p → ⊥
run_in a (of_copies o) = none_outside a.copies_inside o
run_in a (of_steps o) = none_outside a.steps_inside o
run_in a (of_run_edges o) = none_outside a.run_edges_inside o

pub reading_law : ReadingLaw
reading_law bytes = decided spec_format bytes (λ p. spec_in)

pub run_reading_law : RunReadingLaw
run_reading_law n b bytes = decided (run_format n b) bytes (λ p. run_in)
