use Rattle.std.proofs.Common.{subst, sym, refl, rules}
use Rattle.formats.specs.RunFiles.{run_edges_of}
use Rattle.nesting.proofs.Finding.{lowest_failing}
use Rattle.conformance.specs.Nonconforming.{DerivedAt}
use Rattle.conformance.specs.Trials.{trial_run, trial_spec}
use Rattle.conformance.proofs.derivation.Derivation.stray.Goals as goal

pub returns : goal.returns
returns c =
    let t = c.args.self.now.trial in
    let P = DerivedAt (trial_spec t) (trial_run t) (run_edges_of t.run.bytes.now) in
    lowest_failing _ _ _ c.find.result P refl c.edges.ensures c.find.ensures.ran
    (λ x q k. let none : ¬ (P k.shown.now) = search rules in λ p. none (subst P (sym k.shows) p))
    (λ x q k. let one : P k.shown.now = search rules in (search rules, subst P k.shows one))
