use Rattle.std.proofs.Common.{ℕ, ◌↔◌, sym, ap, subst, arith}
use Rattle.model.specs.Forests.{Chain, Falls}
use Rattle.formats.specs.Of.{spec_of}
use Rattle.records.specs.Tables.{kept}
use Rattle.records.specs.declared.kinds.Nest.{Nest}
use Rattle.formats.specs.declared.specification.Specification.{Specification}
use Rattle.rules.proofs.Ranges.{falls_of}
use Rattle.rules.proofs.Walk.{walk_on, walk_ends}
use Rattle.topuivahe.proofs.members.in_domain.Goals as goal

falls : (s : Specification) → Falls (spec_of s).above
falls s = falls_of (kept s.nests) s.rooted s.nested

pub loop-at-smaller : goal.loop-at-smaller
loop-at-smaller c =
    let f = falls c.args.specification.now in
    omega (arith, ap (λ (n : Nest). n.parent) c.nest-at.ensures, f.falls c.loop-at.at (omega arith))

pub loop-at-preserved : goal.loop-at-preserved
loop-at-preserved c =
    let s = spec_of c.args.specification.now in
    let Q : ℕ → Type 0 = λ v. Chain s.above (s.home c.args.vertex) c.args.block ↔ Chain s.above v c.args.block in
    subst Q (sym (ap (λ (n : Nest). n.parent) c.nest-at.ensures)) (walk_on c.loop-at-test.true c.loop-at.invariant)

pub returns : goal.returns
returns c = walk_ends (falls c.args.specification.now) c.loop-at-test.false c.loop-at.invariant
