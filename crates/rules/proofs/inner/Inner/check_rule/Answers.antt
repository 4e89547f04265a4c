use Rattle.std.proofs.Common.{sym, ap, ◌∙◌}
use Rattle.records.specs.Blocks.{kind_number}
use Rattle.records.specs.declared.kinds.Nest.{Nest}
use Rattle.rules.specs.Unsealed.{breaks_loop, breaks_fork}
use Rattle.rules.proofs.inner.Inner.check_rule.Goals as goal

pub returns-in-Some-Fork : goal.returns-in-Some-Fork
returns-in-Some-Fork c a w p =
    let b = c.args.self.now in
    let kind = ap (λ (n : Nest). n.kind) (sym c.nest.ensures) ∙ c.in-Some-Fork.ensures ∙ ap kind_number c.in-Some-Fork.field-0-is in
    breaks_fork a w b.inside.0 b.inside.1 p kind c.if-not-fork_rule.ensures.1

pub returns-in-Some-Loop : goal.returns-in-Some-Loop
returns-in-Some-Loop c a w p =
    let b = c.args.self.now in
    let kind = ap (λ (n : Nest). n.kind) (sym c.nest.ensures) ∙ c.in-Some-Loop.ensures ∙ ap kind_number c.in-Some-Loop.field-0-is in
    breaks_loop a w b.inside.0 b.inside.1 p kind c.if-not-loop_rule.ensures.1
