-- A table and slices as the calls are lent them.
use Rattle.std.specs.Prelude.{List, ℕ}
use Rattle.model.specs.Table.{Table, table_by}
use Rattle.model.specs.declared.Table.{Table as LentTable}

-- the paper's table of the slices that a `Table` of the code holds
abbrev pub table_lent : LentTable → Table
table_lent t = table_by t.sectors t.flows.now t.final_demand.now t.exports.now t.imports.now t.value_added.now t.production.now t.adjustment.now
