use Rattle.std.proofs.Common.{◌≡◌, ◌<◌, arith, rules}
use Rattle.model.specs.Runs.{Run}
use Rattle.formats.specs.RunFiles.{run_of}
use Rattle.records.proofs.Chains.{any_in_range}
use Rattle.nesting.proofs.copies.has_under.Goals as goal

pub returns : goal.returns
returns c =
    let r : Run = run_of c.args.run.bytes.now in
    let h = any_in_range _ _ _ c.any.result (λ j. (r.parent j ≡ c.args.i) × (r.block j ≡ c.args.k)) c.any.ensures.ran (λ x q k. search rules) (λ x q k. search rules) in
    let after = c.saturating_add.ensures in (
      λ t. let j = h.0 t in (j.0, omega (arith, j.2, c.copies.ensures), omega (arith, j.1, after), j.3.0, j.3.1),
      λ u. let below : r.parent u.0 < u.0 = (c.args.run.nested u.0 u.2 u.1).0 in
          h.1 (u.0, omega (arith, below, u.3, after), omega (arith, u.1, c.copies.ensures), (u.3, u.4)),
    )
