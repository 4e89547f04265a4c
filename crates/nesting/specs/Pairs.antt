-- The specification and the run of the subject that the copies of a run, beside a specification, stand for.
use Rattle.model.specs.Specifications.{Spec}
use Rattle.model.specs.Runs.{Run}
use Rattle.formats.specs.Of.{spec_of}
use Rattle.formats.specs.RunFiles.{run_of}
use Rattle.nesting.specs.declared.copies.Copies.{Copies}

abbrev pub copies_spec : Copies → Spec
copies_spec c = spec_of c.specification.now

abbrev pub copies_run : Copies → Run
copies_run c = run_of c.run.bytes.now
