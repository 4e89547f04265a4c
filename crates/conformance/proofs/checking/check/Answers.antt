use Rattle.std.proofs.Common.{◌≡◌, length, ap, ◌∙◌}
use Rattle.formats.specs.declared.specification.Specification.{Specification}
use Rattle.nesting.specs.Of.{sealed_spec_of}
use Rattle.records.specs.Tables.{kept}
use Rattle.conformance.proofs.Checked.{place_left, place_held}
use Rattle.conformance.proofs.checking.check.Goals as goal

pub returns-in_err-open-clause-place : goal.returns-in_err-open-clause-place
returns-in_err-open-clause-place c =
    let s = sealed_spec_of c.args.specification.now in
    let n : length c.vertices.result.now ≡ s.n = ap length c.vertices.ensures ∙ ap (λ (t : Specification). length (kept t.vertices)) c.specification-specification.ensures in
    let b : length c.nests.result.now ≡ s.b = ap length c.nests.ensures ∙ ap (λ (t : Specification). length (kept t.nests)) c.specification-specification.ensures in
    place_left s c.args.bytes.now n b c.in_err-open.ensures.0 c.in_err-open.ensures.1

pub returns-clause-place : goal.returns-clause-place
returns-clause-place c =
    let s = sealed_spec_of c.args.specification.now in
    let n : length c.vertices.result.now ≡ s.n = ap length c.vertices.ensures ∙ ap (λ (t : Specification). length (kept t.vertices)) c.specification-specification.ensures in
    let b : length c.nests.result.now ≡ s.b = ap length c.nests.ensures ∙ ap (λ (t : Specification). length (kept t.nests)) c.specification-specification.ensures in
    let e = c.in_ok-open.ensures in
    place_held s c.args.bytes.now n b c.args.place.now c.open.new.place e.0 e.1 e.2 e.3
