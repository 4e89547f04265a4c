use Rattle.std.proofs.Common.{refl, arith, rules}
use Rattle.std.proofs.lemmas.Iterator.{first_from_Range}
use Rattle.formats.specs.Sections.{first_at, Lowest, Ascends, Unordered}
use Rattle.formats.proofs.Found.{made_of_found}
use Rattle.formats.proofs.sections.Section.unordered.Goals as goal

pub returns : goal.returns
returns g c =
    let s = c.args.self in
    let found = first_from_Range _ _ _ _ (λ i. ¬ (Ascends s.bytes.now s.base s.count i)) (Ascends s.bytes.now s.base s.count) c.find.ensures.ran (λ x q k. search rules) (λ x q k. search rules) in
    made_of_found (Lowest (Unordered s.bytes.now s.base s.count)) (first_at s.base s.count) c.find.result c.map.result found c.map.ensures.cases (λ x y m. search rules)
    (λ h i z l. h i (omega arith) l)
    (λ i h. ((i, omega (arith, h.0), h.1, refl, h.2), λ q l u. u.4 (h.3 u.0 (omega (arith, u.1)) (omega (arith, u.3)))))
