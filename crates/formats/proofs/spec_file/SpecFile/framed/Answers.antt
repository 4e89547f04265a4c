use Rattle.std.proofs.Common.{arith}
use Rattle.std.proofs.lemmas.Result.{err_from_is_err_and}
use Rattle.formats.specs.SpecFiles.{spec_format}
use Rattle.formats.proofs.Refusals.{by_head}
use Rattle.formats.proofs.spec_file.SpecFile.framed.Goals as goal

pub returns-in_err-vertices : goal.returns-in_err-vertices
returns-in_err-vertices c =
    let p = err_from_is_err_and c.from_residual.result c.from_residual.ensures.1 in
    rw (p.1, p.2) (by_head spec_format _ (omega arith) c.in_err-vertices.field-0.0 c.in_err-vertices.ensures)
