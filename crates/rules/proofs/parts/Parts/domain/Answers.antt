use Rattle.std.proofs.Common.{ℕ, ◌+◌, ◌<◌, sym, subst, arith}
use Rattle.model.specs.Specifications.{Domain}
use Rattle.graphs.specs.declared.row.Row.{Row}
use Rattle.rules.specs.Parts.{parts_spec}
use Rattle.rules.proofs.Filling.{Filled, filled_put, filled_skip}
use Rattle.rules.proofs.parts.Parts.domain.Goals as goal
use Rattle.rules.proofs.parts.Parts.domain.Goals.{then-leads_up, else-leads_up}

pub loop-x-preserved : goal.loop-x-preserved
loop-x-preserved c =
    let P : ℕ → Type 0 = Domain (parts_spec c.args.self.now) c.args.k in
    let x = c.loop-x.x in
    let l : x < 64 = omega (arith, c.args.self.now.few, c.loop-x-test.true) in
    elim c.if-leads_up.branch [
      | then-leads_up w ↦ subst (λ (r : Row). Filled P r (x + 1)) (sym w.row-is) (filled_put P c.loop-x.row _ x c.loop-x.invariant l (w.if-leads_up.ensures.0 tt) w.insert.ensures)
      | else-leads_up w ↦ subst (λ (r : Row). Filled P r (x + 1)) (sym w.row-is) (filled_skip P c.loop-x.row x c.loop-x.invariant w.if-leads_up.ensures.1)
    ]
