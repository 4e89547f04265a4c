use Rattle.std.proofs.Common.{arith}
use Rattle.std.proofs.lemmas.Result.{err_from_is_err_and}
use Rattle.formats.specs.RunFiles.{run_format}
use Rattle.formats.proofs.Refusals.{by_head}
use Rattle.formats.proofs.framed_run.FramedRun.framed.Goals as goal

pub returns-in_err-copies : goal.returns-in_err-copies
returns-in_err-copies c =
    let p = err_from_is_err_and c.from_residual.result c.from_residual.ensures.1 in
    rw (p.1, p.2) (by_head (run_format c.args.vertices c.args.blocks) _ (omega arith) c.in_err-copies.field-0.0 c.in_err-copies.ensures).0
