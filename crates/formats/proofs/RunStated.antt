-- A run file whose numbers all lie in their ranges, its edges ascending, states a run of which both are so.
use Rattle.std.proofs.Common.{◌≡◌, ℕ, ◌-◌, ◌<◌, List, length, get_or, sym, ap, subst, inl, inr, arith}
use Rattle.records.specs.Kinds.{Within, below, but_zero_lem}
use Rattle.formats.specs.RunFiles.{c_of, v_of, e_of, copies_from, steps_from, run_edges_from, copies_of, steps_of, run_edges_of, RunFramed, RunInside}
use Rattle.formats.specs.Runs.{made_copy, made_step, made_run_edge, no_copy, no_step, no_run_edge, RootRanged, CopiesRanged, StepsRanged, RunEdgesRanged, TailsAscend, HeadsAscend}
use Rattle.formats.specs.Sections.{stated, Ascending}
use Rattle.formats.proofs.Rows.{section_length, section_at}
use Rattle.formats.proofs.Stated.{past_zero}
use Rattle.records.specs.declared.kinds.RunCopy.{RunCopy}
use Rattle.records.specs.declared.kinds.Step.{Step}
use Rattle.records.specs.declared.kinds.RunEdge.{RunEdge}
use Rattle.records.specs.declared.record.Span.{Span}

module _ (bytes : List ℕ) where
  copies_long : length (copies_of bytes) ≡ c_of bytes
  copies_long = section_length made_copy bytes (copies_from bytes) (c_of bytes)

  steps_long : length (steps_of bytes) ≡ v_of bytes
  steps_long = section_length made_step bytes (steps_from bytes) (v_of bytes)

  run_edges_long : length (run_edges_of bytes) ≡ e_of bytes
  run_edges_long = section_length made_run_edge bytes (run_edges_from bytes) (e_of bytes)

  copy_at : (i : ℕ) → i < c_of bytes → get_or (copies_of bytes) i no_copy ≡ stated made_copy bytes (copies_from bytes) (c_of bytes) i
  copy_at i l = section_at made_copy bytes (copies_from bytes) (c_of bytes) i no_copy l

  step_at : (u : ℕ) → u < v_of bytes → get_or (steps_of bytes) u no_step ≡ stated made_step bytes (steps_from bytes) (v_of bytes) u
  step_at u l = section_at made_step bytes (steps_from bytes) (v_of bytes) u no_step l

  run_edge_at : (k : ℕ) → k < e_of bytes → get_or (run_edges_of bytes) k no_run_edge ≡ stated made_run_edge bytes (run_edges_from bytes) (e_of bytes) k
  run_edge_at k l = section_at made_run_edge bytes (run_edges_from bytes) (e_of bytes) k no_run_edge l

module _ {n b : ℕ} {bytes : List ℕ} (framed : RunFramed bytes) (inside : RunInside n b bytes) where
  pub root_ranged : RootRanged (copies_of bytes)
  root_ranged =
      let l : 0 < c_of bytes = omega (arith, framed.1.0.0) in
      let e = copy_at bytes 0 l in
      (omega (arith, ap (λ (x : RunCopy). x.parent) e, (inside.copies_inside.firsts_in 0 l).1), omega (arith, ap (λ (x : RunCopy). x.block) e, (inside.copies_inside.seconds_in 0 l).1))

  pub copies_ranged : CopiesRanged b (copies_of bytes)
  copies_ranged i z h =
      let l : i < c_of bytes = omega (arith, copies_long bytes) in
      let e = copy_at bytes i l in
      let blocks : Span = record { low = 1; end = b } in
      let p = past_zero i (below i) (get_or (copies_of bytes) i no_copy).parent z (subst (λ (x : ℕ). Within (but_zero_lem i (below i)) x) (sym (ap (λ (x : RunCopy). x.parent) e)) (inside.copies_inside.firsts_in i l)) in
      let q = past_zero i blocks (get_or (copies_of bytes) i no_copy).block z (subst (λ (x : ℕ). Within (but_zero_lem i blocks) x) (sym (ap (λ (x : RunCopy). x.block) e)) (inside.copies_inside.seconds_in i l)) in
      (p.1, omega (arith, q.0), q.1)

  pub steps_ranged : StepsRanged n (copies_of bytes) (steps_of bytes)
  steps_ranged u h =
      let l : u < v_of bytes = omega (arith, steps_long bytes) in
      let e = step_at bytes u l in
      (omega (arith, copies_long bytes, ap (λ (x : Step). x.context) e, (inside.steps_inside.firsts_in u l).1), omega (arith, ap (λ (x : Step). x.origin) e, (inside.steps_inside.seconds_in u l).1))

  pub run_edges_ranged : RunEdgesRanged (steps_of bytes) (run_edges_of bytes)
  run_edges_ranged k h =
      let l : k < e_of bytes = omega (arith, run_edges_long bytes) in
      let e = run_edge_at bytes k l in
      (omega (arith, steps_long bytes, ap (λ (x : RunEdge). x.tail) e, (inside.run_edges_inside.firsts_in k l).1), omega (arith, steps_long bytes, ap (λ (x : RunEdge). x.head) e, (inside.run_edges_inside.seconds_in k l).1))

module _ (bytes : List ℕ) (ascending : Ascending bytes (run_edges_from bytes) (e_of bytes)) where
  pub tails_ascend : TailsAscend (run_edges_of bytes)
  tails_ascend k z h =
      let l : k < e_of bytes = omega (arith, run_edges_long bytes) in
      let e = ap (λ (x : RunEdge). x.tail) (run_edge_at bytes k l) in
      let d = ap (λ (x : RunEdge). x.tail) (run_edge_at bytes (k - 1) (omega arith)) in
      elim (ascending k z l) [ inl a ↦ omega (arith, e, d) | inr a ↦ omega (arith, e, d, a.0) ]

  pub heads_ascend : HeadsAscend (run_edges_of bytes)
  heads_ascend k z h same =
      let l : k < e_of bytes = omega (arith, run_edges_long bytes) in
      let e = run_edge_at bytes k l in
      let d = run_edge_at bytes (k - 1) (omega arith) in
      elim (ascending k z l) [
        | inl a ↦ absurd (omega (arith, ap (λ (x : RunEdge). x.tail) e, ap (λ (x : RunEdge). x.tail) d))
        | inr a ↦ omega (arith, ap (λ (x : RunEdge). x.head) e, ap (λ (x : RunEdge). x.head) d, a.1)
      ]
