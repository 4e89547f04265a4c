-- What a trial's tables keep: copies have parents below them, and there are few of them.
use Rattle.std.proofs.Common.{ℕ, ◌<◌, ◌≤◌, ◌⊎◌, List, length, get_or, ap, inl, inr, arith}
use Rattle.std.proofs.lemmas.List.{get_or_past}
use Rattle.std.proofs.lemmas.Bool.{cases_lt}
use Rattle.model.specs.Forests.{Falls}
use Rattle.formats.specs.RunFiles.{c_of, copies_from, copies_of}
use Rattle.formats.specs.Runs.{no_copy, made_copy, RootRanged, CopiesRanged}
use Rattle.formats.proofs.Rows.{section_length}
use Rattle.records.specs.Kinds.{copy_kind}
use Rattle.records.specs.declared.kinds.RunCopy.{RunCopy}
use Rattle.rules.proofs.Ranges.{falls_of}
use Rattle.conformance.specs.Trials.{trial_spec, trial_run}
use Rattle.conformance.specs.declared.trial.Trial.{Trial}

copies_fall : (b : ℕ) (cs : List RunCopy) → RootRanged cs → CopiesRanged b cs → Falls (λ i. (get_or cs i no_copy).parent)
copies_fall b cs w f = record { zero_parent = w.0; falls = λ i z. go i z (cases_lt i (length cs)) }
  where
    go : (i : ℕ) → 0 < i → (i < length cs) ⊎ (length cs ≤ i) → (get_or cs i no_copy).parent < i
    go i z (inl h) = (f i z h).0
    go i z (inr h) = omega (arith, ap (λ (x : RunCopy). x.parent) (get_or_past cs i no_copy h))

-- every copy but 0 has a parent below it
pub trial_falls : (t : Trial) → Falls (trial_run t).parent
trial_falls t = copies_fall t.run.blocks (copies_of t.run.bytes.now) t.run.rooted t.run.nested

-- every block but 0 has a parent below it
pub trial_nest : (t : Trial) → Falls (trial_spec t).above
trial_nest t = falls_of _ t.specification.now.rooted t.specification.now.nested

-- a table with a place for each copy that a run may have has one for each that it has
pub copies_few : (t : Trial) → (trial_run t).c ≤ copy_kind.ceiling
copies_few t =
    let bytes = t.run.bytes.now in
    omega (arith, section_length made_copy bytes (copies_from bytes) (c_of bytes), t.run.framed.1.0.1)

-- contexts are copies
pub trial_context : (t : Trial) {u : ℕ} → u < (trial_run t).v → (trial_run t).context u < (trial_run t).c
trial_context t {u} h = (t.run.placed u h).0
