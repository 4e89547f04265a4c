-- What a table holds.
use Rattle.std.specs.Prelude.{ℕ, List, take}
use Rattle.records.specs.declared.tables.Table.{Table}

abbrev pub kept : {T : Type 0} {N : ℕ} → Table T N → List T
kept t = take t.len t.items
