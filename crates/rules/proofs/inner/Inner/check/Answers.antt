use Rattle.rules.specs.Unsealed.{same_domain}
use Rattle.rules.proofs.inner.Inner.check.Goals as goal

pub returns-then-not-distinct : goal.returns-then-not-distinct
returns-then-not-distinct c a w p =
    let b = c.args.self.now in
    same_domain a w b.inside.0 b.inside.1 p c.in_ok-check_rule.ensures c.if-not-distinct.ensures.1
