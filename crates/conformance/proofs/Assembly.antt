-- From what the checks find to a run that is placed, and to one that conforms.
use Rattle.std.proofs.Common.{ℕ, T, List, get_or, subst, arith}
use Rattle.model.specs.Specifications.{Spec}
use Rattle.model.specs.Runs.{Placed, Derived, Conforms}
use Rattle.model.proofs.Cases.{cases}
use Rattle.model.proofs.Tests.{bool_or}
use Rattle.formats.specs.RunFiles.{c_of, copies_from, run_edges_of, run_of}
use Rattle.formats.specs.Runs.{made_copy, no_run_edge}
use Rattle.formats.proofs.Rows.{section_length}
use Rattle.nesting.specs.Copies.{Follows, Filled}
use Rattle.conformance.specs.Trials.{trial_spec, trial_run, Fitting}
use Rattle.conformance.specs.declared.trial.Trial.{Trial}
use Rattle.conformance.specs.Nonconforming.{AtHome, Once, Stepped, AllDerived, Unlisted}
use Rattle.conformance.proofs.Halving.{stands_so}
use Rattle.conformance.proofs.RunRanges.{trial_falls}

-- a run file that was opened against as many vertices and blocks as the specification has, and whose copies and steps passed their checks
pub placed_of : (t : Trial) → Fitting t → Follows (trial_spec t) (trial_run t) → Filled (trial_spec t) (trial_run t)
    → AtHome (trial_spec t) (trial_run t) → Once (trial_run t) → Stepped (trial_spec t) (trial_run t) → Placed (trial_spec t) (trial_run t)
placed_of t fit fo fi ho on st =
    let f = t.run in
    let bytes = f.bytes.now in
    record {
      tree = trial_falls t;
      copies = omega (arith, section_length made_copy bytes (copies_from bytes) (c_of bytes), f.framed.1.0.0);
      block_zero = f.rooted.1;
      block_range = λ i z h. ((f.nested i z h).1, omega (arith, fit.1, (f.nested i z h).2));
      context_range = λ u h. (f.placed u h).0;
      origin_range = λ u h. omega (arith, fit.0, (f.placed u h).1);
      follows = fo;
      children = fi;
      at_home = ho;
      one_step = st;
      only_step = on;
    }

-- the listed edges are exactly the derived ones
pub conforms_of : (s : Spec) (bytes : List ℕ) → Placed s (run_of bytes) → AllDerived s (run_of bytes) (run_edges_of bytes)
    → ((u : ℕ) → ¬ (Unlisted s (run_of bytes) u)) → Conforms s (run_of bytes)
conforms_of s bytes P D n = record { placed = P; exactly = λ u w. (forth u w, back u w) }
  where
    forth : (u w : ℕ) → T ((run_of bytes).listed u w) → Derived s (run_of bytes) u w
    forth u w t =
        let k = stands_so (run_edges_of bytes) u w t in
        subst (λ x. Derived s (run_of bytes) x w) k.1.1 (subst (Derived s (run_of bytes) (get_or (run_edges_of bytes) k.0 no_run_edge).tail) k.1.2 (D k.0 k.1.0))

    back : (u w : ℕ) → Derived s (run_of bytes) u w → T ((run_of bytes).listed u w)
    back u w d = cases (bool_or ((run_of bytes).listed u w)) (λ t. t) (λ f. absurd (n u (w, d, f)))
