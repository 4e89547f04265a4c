-- From what the first three checks find to the refusals of a file.
use Rattle.std.proofs.Common.{◌≡◌, ℕ, List, sym, ◌∙◌, subst, arith}
use Rattle.records.specs.Kinds.{Kind, Fits}
use Rattle.formats.specs.Faults.{reading_fault}
use Rattle.formats.specs.Files.{Format, BadSizeOf, bad_first, bad_second, bad_third, HeadRefused, length_of, FramedOf, RefusedOf, too_short, bad_size, bad_length}
use Rattle.formats.specs.Words.{word}
use Rattle.formats.specs.declared.faults.ReadingFault.{ReadingFault}
use Rattle.formats.specs.declared.faults.ReadingFault.TheVariants.{Short, Size, Length, Range, Order}
use Rattle.formats.proofs.Decided.{sizes_bad}

-- the three sizes as the code read them
module _ {j k l : Kind} {bytes : List ℕ} {x y z : ℕ} (at_x : x ≡ word bytes 0) (at_y : y ≡ word bytes 2) (at_z : z ≡ word bytes 4) where
  pub first_bad : (¬ (Fits j x)) → BadSizeOf j k l bytes 0
  first_bad f = bad_first (subst (λ n. ¬ (Fits j n)) at_x f)

  pub second_bad : Fits j x → (¬ (Fits k y)) → BadSizeOf j k l bytes 1
  second_bad g f = bad_second (subst (Fits j) at_x g) (subst (λ n. ¬ (Fits k n)) at_y f)

  pub third_bad : Fits j x → Fits k y → (¬ (Fits l z)) → BadSizeOf j k l bytes 2
  third_bad g h f = bad_third (subst (Fits j) at_x g) (subst (Fits k) at_y h) (subst (λ n. ¬ (Fits l n)) at_z f)

-- a file that one of the first three checks refuses is not framed
module _ (t : Format) (thirds : ℕ) {bytes : List ℕ} (long : length_of thirds bytes ≡ t.long bytes) where
  pub by_head : (e : ReadingFault) → HeadRefused t.first t.second t.third thirds bytes e → RefusedOf t bytes (reading_fault e) × (¬ (FramedOf t bytes))
  by_head (Short present) h = (subst (λ p. RefusedOf t bytes (record { layer = 1; number = 1; place = p })) (sym h.0) (too_short h.1), λ g. omega (arith, g.0, h.1))
  by_head (Size which) h = (bad_size h.0 h.1, λ g. sizes_bad g.1 h.1)
  by_head (Length needed) h =
      let same : needed ≡ t.long bytes = h.2 ∙ long in (
        subst (λ p. RefusedOf t bytes (record { layer = 1; number = 3; place = p })) (sym same) (bad_length h.0 h.1 (λ e. h.3 (e ∙ sym same))),
        λ g. h.3 (g.2 ∙ sym same),
      )
  by_head (Range at) h = absurd h
  by_head (Order at) h = absurd h
