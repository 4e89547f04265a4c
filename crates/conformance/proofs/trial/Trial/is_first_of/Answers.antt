use Rattle.std.proofs.Common.{rules}
use Rattle.records.proofs.Chains.{any_in_range}
use Rattle.conformance.specs.Groups.{Alike}
use Rattle.conformance.specs.Trials.{trial_run}
use Rattle.conformance.proofs.Grouping.{first_where}
use Rattle.conformance.proofs.trial.Trial.is_first_of.Goals as goal

pub returns : goal.returns
returns c = first_where (trial_run c.args.self) c.args.q c.any.result c.requires
    (any_in_range _ _ _ c.any.result (Alike (trial_run c.args.self) c.args.q) c.any.ensures.ran (λ x q k. search rules) (λ x q k. search rules))
