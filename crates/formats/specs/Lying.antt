-- Where a section lies.
use Rattle.std.specs.Prelude.{◌≡◌, ℕ, List}
use Rattle.formats.specs.declared.sections.Section.{Section}

-- the section is that of `count` records from byte `base` of these bytes
abbrev pub Lies : {R : Type 0} → Section R → List ℕ → ℕ → ℕ → Type 0
Lies s bytes base count = (s.bytes.now ≡ bytes) × (s.base ≡ base) × (s.count ≡ count)
