-- The lent tables are a specification whose numbers lie in their ranges.
use Rattle.model.specs.Specifications.{InRanges}
use Rattle.rules.specs.Parts.{parts_spec}
use Rattle.rules.specs.declared.parts.Parts.{Parts}
use Rattle.rules.proofs.Ranges.{ranges_of}

pub parts_ranges : (p : Parts) → InRanges (parts_spec p)
parts_ranges p = ranges_of p.edges.now p.vertices.now p.nests.now p.ends.now p.sized p.edged p.housed p.rooted p.nested p.ended
