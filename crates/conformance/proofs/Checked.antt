-- From opening a run file to what the place for it then holds.
use Rattle.std.proofs.Common.{◌≡◌, ℕ, List, ◌∙◌, subst}
use Rattle.model.specs.Specifications.{Spec}
use Rattle.formats.specs.RunFiles.{RunAccepted, RunRefused}
use Rattle.formats.specs.declared.faults.Fault.{Fault}
use Rattle.formats.specs.declared.run_file.RunFile.{RunFile}
use Rattle.formats.proofs.Decided.{run_reading_law}
use Rattle.conformance.specs.Deciding.{PlaceAfter}

-- n and b as the code counted them
module _ (s : Spec) (bytes : List ℕ) {n b : ℕ} (at_n : n ≡ s.n) (at_b : b ≡ s.b) where
  pub accepted_as : RunAccepted n b bytes → RunAccepted s.n s.b bytes
  accepted_as a = subst (λ y. RunAccepted s.n y bytes) at_b (subst (λ x. RunAccepted x b bytes) at_n a)

  pub refused_as : {f : Fault} → RunRefused n b bytes f → RunRefused s.n s.b bytes f
  refused_as {f} a = subst (λ y. RunRefused s.n y bytes f) at_b (subst (λ x. RunRefused x b bytes f) at_n a)

  pub place_left : {f : Fault} {before after : RunFile} → RunRefused n b bytes f → after ≡ before → PlaceAfter s bytes before after
  place_left {f} r e = record { held = λ a. absurd ((run_reading_law s.n s.b bytes).never_both a f (refused_as r)); left = λ g x. e }

  pub place_held : (before after : RunFile) → RunAccepted n b bytes → after.bytes.now ≡ bytes → after.vertices ≡ n → after.blocks ≡ b → PlaceAfter s bytes before after
  place_held before after a e v k = record {
    held = λ x. (e, v ∙ at_n, k ∙ at_b);
    left = λ f r. absurd ((run_reading_law s.n s.b bytes).never_both (accepted_as a) f r);
  }
