use Rattle.std.proofs.Common.{arith, rules}
use Rattle.records.proofs.Chains.{lowest_in_range}
use Rattle.conformance.specs.Groups.{Alike}
use Rattle.conformance.specs.Trials.{trial_run}
use Rattle.conformance.proofs.Grouping.{next_or_last}
use Rattle.conformance.proofs.RunRanges.{copies_few}
use Rattle.conformance.proofs.trial.Trial.next_of.Goals as goal

pub overflow_add-q : goal.overflow_add-q
overflow_add-q c = omega (arith, copies_few c.args.self)

pub returns : goal.returns
returns c =
    let r = trial_run c.args.self in
    next_or_last r c.args.q c.copies.result c.find.result c.copies.ensures
    (lowest_in_range _ _ _ c.find.result (Alike r c.args.q) c.find.ensures.ran (λ x q k. search rules) (λ x q k. search rules))
