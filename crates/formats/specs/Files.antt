-- Files of any format: three sizes and then sections, and why one is refused.
use Rattle.std.specs.Prelude.{◌≡◌, ℕ, ◌+◌, ◌*◌, ◌<◌, ◌≤◌, ◌≢◌, List, length}
use Rattle.records.specs.Kinds.{Kind, Fits}
use Rattle.formats.specs.Sections.{Lowest, Ascending, Unordered}
use Rattle.formats.specs.Words.{word}
use Rattle.formats.specs.declared.faults.Fault.{Fault}
use Rattle.formats.specs.declared.faults.ReadingFault.{ReadingFault}
use Rattle.formats.specs.declared.faults.ReadingFault.TheVariants.{Short, Size, Length, Range, Order}

-- What one format asks of the bytes of a file: the kinds whose limits the three sizes keep, how long the sizes say that the file is,
-- that every number lies in its range, at which byte positions one does not, and where the edges start and how many there are.
pub record Format : Type 1 where
  pub first : Kind
  pub second : Kind
  pub third : Kind
  pub long : List ℕ → ℕ
  pub AllIn : List ℕ → Type 0
  pub OutAt : List ℕ → ℕ → Type 0
  pub base : List ℕ → ℕ
  pub count : List ℕ → ℕ

-- each size lies within its limits; the sizes stand at bytes 0, 2 and 4
abbrev pub SizesFitOf : Kind → Kind → Kind → List ℕ → Type 0
SizesFitOf j k l bytes = Fits j (word bytes 0) × Fits k (word bytes 2) × Fits l (word bytes 4)

-- the size numbered i is the first outside its limits
pub data BadSizeOf (j k l : Kind) (bytes : List ℕ) : ℕ → Type 0 where
  bad_first : (¬ (Fits j (word bytes 0))) → BadSizeOf j k l bytes 0
  bad_second : Fits j (word bytes 0) → (¬ (Fits k (word bytes 2))) → BadSizeOf j k l bytes 1
  bad_third : Fits j (word bytes 0) → Fits k (word bytes 2) → (¬ (Fits l (word bytes 4))) → BadSizeOf j k l bytes 2

-- how long a file is that has a section for its first size, one for its second, and `thirds` for its third: two bytes a number, two numbers a record
abbrev pub length_of : ℕ → List ℕ → ℕ
length_of thirds bytes = 6 + 4 * (word bytes 0 + word bytes 2 + thirds * word bytes 4)

-- which of the first three checks refuses: that the file holds its sizes, that these are within their limits, and that it is as long as they say
abbrev pub HeadRefused : Kind → Kind → Kind → ℕ → List ℕ → ReadingFault → Type 0
HeadRefused j k l thirds bytes (Short present) = (present ≡ length bytes) × (length bytes < 6)
HeadRefused j k l thirds bytes (Size which) = (6 ≤ length bytes) × BadSizeOf j k l bytes which
HeadRefused j k l thirds bytes (Length needed) = (6 ≤ length bytes) × SizesFitOf j k l bytes × (needed ≡ length_of thirds bytes) × (length bytes ≢ needed)
HeadRefused j k l thirds bytes (Range at) = ⊥
HeadRefused j k l thirds bytes (Order at) = ⊥

-- the file holds its sizes, these are within their limits, and it is as long as they say
abbrev pub FramedOf : Format → List ℕ → Type 0
FramedOf t bytes = (6 ≤ length bytes) × SizesFitOf t.first t.second t.third bytes × (length bytes ≡ t.long bytes)

-- Why a file is refused. Each check is made where those before it pass: the file is too short to hold its sizes; a size is outside its
-- limits; the length is not as the sizes say; a number is outside its range; an edge is not above the one before it.
pub data RefusedOf (t : Format) (bytes : List ℕ) : Fault → Type 0 where
  too_short : length bytes < 6 → RefusedOf t bytes (record { layer = 1; number = 1; place = length bytes })
  bad_size : {i : ℕ} → 6 ≤ length bytes → BadSizeOf t.first t.second t.third bytes i → RefusedOf t bytes (record { layer = 1; number = 2; place = i })
  bad_length : 6 ≤ length bytes → SizesFitOf t.first t.second t.third bytes → length bytes ≢ t.long bytes → RefusedOf t bytes (record { layer = 1; number = 3; place = t.long bytes })
  out_of_range : {p : ℕ} → FramedOf t bytes → Lowest (t.OutAt bytes) p → RefusedOf t bytes (record { layer = 1; number = 4; place = p })
  out_of_order : {p : ℕ} → FramedOf t bytes → t.AllIn bytes → Lowest (Unordered bytes (t.base bytes) (t.count bytes)) p → RefusedOf t bytes (record { layer = 1; number = 5; place = p })

-- none of the checks refuses
pub record AcceptedOf (t : Format) (bytes : List ℕ) : Type 0 where
  pub framed : FramedOf t bytes
  pub inside : t.AllIn bytes
  pub ascending : Ascending bytes (t.base bytes) (t.count bytes)

-- no file is both accepted and refused, and none is refused in two ways
pub record DecidedOf (t : Format) (bytes : List ℕ) : Type 0 where
  pub never_both : AcceptedOf t bytes → (f : Fault) → ¬ (RefusedOf t bytes f)
  pub one_fault : (f g : Fault) → RefusedOf t bytes f → RefusedOf t bytes g → f ≡ g
