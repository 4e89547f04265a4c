-- What a call made of the number that another found.
use Rattle.std.proofs.Common.{◌≡◌, ℕ, Some, None, Option, sym, subst, MatchOption, IsSomeAnd}

-- N holds where nothing was found and H of what was: so does A where nothing was made, and Q of what was
pub made_of_found : {N A : Type 0} {H : ℕ → Type 0} {Made : ℕ → ℕ → Type 0} (Q : ℕ → Type 0) (make : ℕ → ℕ) (o r : Option ℕ) → MatchOption o N H
    → MatchOption o (r ≡ None) (λ x. IsSomeAnd r (Made x)) → ((x y : ℕ) → Made x y → y ≡ make x)
    → (N → A) → ((x : ℕ) → H x → Q (make x)) → MatchOption r A Q
made_of_found {A = A} Q make None r h m e a q = subst (λ (r : Option ℕ). MatchOption r A Q) (sym m) (a h)
made_of_found Q make (Some x) None h m e a q = absurd m
made_of_found Q make (Some x) (Some y) h m e a q = subst Q (sym (e x y m)) (q x h)
