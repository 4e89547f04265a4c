use Rattle.rules.proofs.ForkDomains.{fork_keeps}
use Rattle.rules.proofs.Scans.{told}
use Rattle.rules.proofs.inner.Inner.fork_domain.Goals as goal

pub returns-in-Some : goal.returns-in-Some
returns-in-Some c =
    told c.fork_row.result c.fork_row.ensures
    (fork_keeps c.args.self.now c.domain-domain.result c.domain-domain.ensures c.in-Some.x c.in-Some.ensures.0)
