use Rattle.rules.proofs.LoopLaws.{loop_keeps}
use Rattle.rules.proofs.Scans.{told}
use Rattle.rules.proofs.inner.Inner.loop_rule.Goals as goal

pub returns : goal.returns
returns c = told c.loop_row.result c.loop_row.ensures (loop_keeps c.args.self.now c.domain-domain.result c.domain-domain.ensures)
