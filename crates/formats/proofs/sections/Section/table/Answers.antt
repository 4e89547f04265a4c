use Rattle.std.proofs.Common.{arith}
use Rattle.formats.specs.Sections.{stated}
use Rattle.records.specs.Tables.{kept}
use Rattle.formats.proofs.Rows.{row_more}
use Rattle.formats.proofs.sections.Section.table.Goals as goal

pub loop-i-preserved : goal.loop-i-preserved
loop-i-preserved g c =
    let s = c.args.self in
    row_more (stated g.R.Record.made s.bytes.now s.base s.count) c.loop-i.i g.row.N {rows' = kept c.push.new.self} c.push.result c.loop-i.invariant.0 c.loop-i.invariant.1 (omega arith) c.at.ensures c.push.ensures.variant c.push.ensures.taken
