use Rattle.std.proofs.Common.{T, subst}
use Rattle.conformance.proofs.derivation.Derivation.last_to_first.Goals as goal

pub returns-then-all_at_end : goal.returns-then-all_at_end
returns-then-all_at_end c =
    let lasts = rw c.context.ensures at c.if-all_at_end.ensures in
    let firsts = rw c.context-then-all_at_end.ensures at c.all_at_end-then-all_at_end.ensures in
    (λ h. (lasts.0 tt, firsts.0 h), λ h. firsts.1 h.1)

pub returns-else-all_at_end : goal.returns-else-all_at_end
returns-else-all_at_end c =
    let lasts = rw c.context.ensures at c.if-all_at_end.ensures in
    (λ h. absurd (subst T c.if-all_at_end.false h), λ h. absurd (lasts.1 h.0))
