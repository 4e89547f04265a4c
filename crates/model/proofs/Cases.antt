-- Cases to split on: either of two facts, and whether a number is 0.
use Rattle.std.proofs.Common.{◌≡◌, ℕ, zero, suc, ◌<◌, ◌⊎◌, refl, inl, inr, arith}

pub cases : {A B C : Type 0} → A ⊎ B → (A → C) → (B → C) → C
cases (inl a) f g = f a
cases (inr b) f g = g b

pub zero_or : (q : ℕ) → (q ≡ 0) ⊎ (0 < q)
zero_or zero = inl refl
zero_or (suc q) = inr (omega arith)
