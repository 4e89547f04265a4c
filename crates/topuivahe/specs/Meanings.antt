-- Which vertices of a specification are meant.
use Rattle.std.specs.Prelude.{◌≡◌, ℕ}
use Rattle.model.specs.Specifications.{Spec, Edge}
use Rattle.formats.specs.Of.{spec_of}
use Rattle.topuivahe.specs.declared.members.SpecificationWords.{SpecificationWords}

abbrev pub words_spec : SpecificationWords → Spec
words_spec w = spec_of w.specification.now

-- some edge leads to x
abbrev pub Entered : Spec → ℕ → Type 0
Entered s x = (y : ℕ) × Edge s y x

-- some edge leads from x
abbrev pub Left : Spec → ℕ → Type 0
Left s x = (y : ℕ) × Edge s x y

-- x is at home in block k; no edge leads to x; no edge leads from x
abbrev pub AtHome : Spec → ℕ → ℕ → Type 0
AtHome s k x = s.home x ≡ k

abbrev pub NotEntered : Spec → ℕ → Type 0
NotEntered s x = ¬ (Entered s x)

abbrev pub NotLeft : Spec → ℕ → Type 0
NotLeft s x = ¬ (Left s x)
