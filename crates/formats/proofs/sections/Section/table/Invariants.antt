use Rattle.std.proofs.Common.{◌≡◌, map}
use Rattle.std.specs.List.{range_with_len}
use Rattle.formats.specs.Sections.{stated}
use Rattle.records.specs.Tables.{kept}
use Rattle.formats.proofs.sections.Section.table.Given as goal

abbrev pub invariant-loop-i : goal.invariant-loop-i
invariant-loop-i g l =
    (l.table.len ≡ l.i)
    × (kept l.table ≡ map (stated g.R.Record.made l.self.bytes.now l.self.base l.self.count) (range_with_len 0 l.i))
