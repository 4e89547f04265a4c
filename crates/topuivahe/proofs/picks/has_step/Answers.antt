use Rattle.std.proofs.Common.{◌≡◌, rules, arith}
use Rattle.formats.specs.RunFiles.{run_of}
use Rattle.records.proofs.Chains.{any_in_range}
use Rattle.topuivahe.proofs.picks.has_step.Goals as goal

pub returns : goal.returns
returns c =
    let r = run_of c.args.run.bytes.now in
    let h = any_in_range _ _ _ c.any.result (λ u. (r.context u ≡ c.args.i) × (r.origin u ≡ c.args.x)) c.any.ensures.ran (λ x q k. search rules) (λ x q k. search rules) in (
      λ w. let u = h.0 w in (u.0, omega (arith, u.2, c.steps.ensures), u.3.0, u.3.1),
      λ w. h.1 (w.0, omega arith, omega (arith, w.1, c.steps.ensures), (w.2, w.3)),
    )
