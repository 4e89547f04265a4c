-- The specification and the run of the subject that a trial stands for.
use Rattle.std.specs.Prelude.{◌≡◌}
use Rattle.model.specs.Specifications.{Spec}
use Rattle.model.specs.Runs.{Run}
use Rattle.formats.specs.Of.{spec_of}
use Rattle.formats.specs.RunFiles.{run_of}
use Rattle.conformance.specs.declared.trial.Trial.{Trial}

abbrev pub trial_spec : Trial → Spec
trial_spec t = spec_of t.specification.now

abbrev pub trial_run : Trial → Run
trial_run t = run_of t.run.bytes.now

-- the run file was opened against as many vertices and blocks as the specification has
abbrev pub Fitting : Trial → Type 0
Fitting t = (t.run.vertices ≡ (trial_spec t).n) × (t.run.blocks ≡ (trial_spec t).b)
