use Rattle.std.proofs.lemmas.Result.{err_from_is_err_and}
use Rattle.conformance.specs.Nonconforming.{misnested}
use Rattle.conformance.proofs.trial.Trial.check_all.Goals as goal

pub returns-in_err-check_copies : goal.returns-in_err-check_copies
returns-in_err-check_copies c =
    let p = err_from_is_err_and c.from_residual.result c.from_residual.ensures.1 in
    rw (p.1, p.2) (misnested c.in_err-check_copies.ensures)
