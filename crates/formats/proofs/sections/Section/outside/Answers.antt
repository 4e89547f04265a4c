use Rattle.std.proofs.Common.{arith, rules, ◌+◌, ◌*◌}
use Rattle.std.proofs.lemmas.Iterator.{first_from_Range}
use Rattle.formats.specs.Sections.{NumberWithin, Outside, Lowest}
use Rattle.formats.proofs.Found.{made_of_found}
use Rattle.formats.proofs.Ranges.{lowest_number, all_inside}
use Rattle.formats.proofs.sections.Section.outside.Goals as goal

pub returns : goal.returns
returns g c =
    let s = c.args.self in
    let kind = g.R.Record.kind in
    let within = NumberWithin kind c.args.bounds s.bytes.now s.base s.count in
    let found = first_from_Range _ _ _ _ (λ k. ¬ (within k)) within c.find.ensures.ran (λ x q k. search rules) (λ x q k. search rules) in
    made_of_found (Lowest (Outside kind c.args.bounds s.bytes.now s.base s.count)) (λ k. s.base + 2 * k) c.find.result c.map.result found c.map.ensures.cases (λ x y m. search rules)
    (λ h. all_inside kind c.args.bounds s.bytes.now s.base s.count (λ j l. h j (omega arith) (omega arith)))
    (λ k h. lowest_number kind c.args.bounds s.bytes.now s.base s.count k (omega (arith, h.1)) h.2 (λ j l. h.3 j (omega arith) l))
