-- `file_layout::put_table` meets its contract: kind 1, then the rows, then the columns, then kind 8 are written.
use Rattle.std.proofs.Common.{arith, refl}
use Rattle.model.specs.Table.{Table}
use Rattle.model.specs.File.{kind_place}
use Rattle.model.specs.CallContracts.{slices_lent, table_from}
use Rattle.theory_archives.proofs.Holding.{Fit, by_kind, by_kind_long}
use Rattle.file_layout.proofs.TableLaws.{table_written}
use Rattle.file_layout.proofs.put_table.Goals as goal

pub put_columns-end-requires-clause-columns : goal.put_columns-end-requires-clause-columns
put_columns-end-requires-clause-columns c =
    let t : Table = table_from c.args.table.now.sectors (slices_lent c.args.table.now c.args.rises.now) in
    let sizes = c.requires.0 in
    let f : Fit t = record { sizes = sizes; count = refl } in
    λ k h. (omega (arith, sizes.few, by_kind_long t f k h), λ i. rw (by_kind t f k h) (c.requires.1.columns (kind_place k) i))

pub returns-clause-file_after : goal.returns-clause-file_after
returns-clause-file_after c =
    let t : Table = table_from c.args.table.now.sectors (slices_lent c.args.table.now c.args.rises.now) in
    let opening = c.put_bytes-flows_at.ensures in
    let flows = c.put_rows-columns_at.ensures in
    let columns = c.put_columns-end.ensures in
    let last = c.put_byte.ensures in
    table_written t c.args.file.now (opening.value, opening.out_after) (flows.value, flows.file_after) (columns.value, columns.file_after) (last.value, last.out_after)
