-- `page_file::file_sheet` meets its contract: what is printed of the table that was read is the file's page.
use Rattle.std.proofs.Common.{arith, ap, ◌∙◌}
use Rattle.std.proofs.lemmas.Result.{err_from_is_err_and}
use Rattle.model.specs.Table.{Table}
use Rattle.model.specs.Page.{table_page}
use Rattle.page_file.proofs.FilePages.{read_stop, read_few, read_on}
use Rattle.page_file.proofs.file_sheet.Goals as goal

pub returns-in_err-read-clause-text : goal.returns-in_err-read-clause-text
returns-in_err-read-clause-text c =
    let p = err_from_is_err_and c.from_residual.result c.from_residual.ensures.1 in
    rw (p.1, p.2) (read_stop c.args.file.now c.in_err-read.ensures.0)

pub table_in-requires : goal.table_in-requires
table_in-requires c =
    let w = c.in_ok-read.ensures in
    (read_few c.args.file.now c.read_flat.new.cells w.0 w.1, w.1.long)

pub table_sheet-requires-clause-few : goal.table_sheet-requires-clause-few
table_sheet-requires-clause-few c =
    let w = c.in_ok-read.ensures in
    let few = read_few c.args.file.now c.read_flat.new.cells w.0 w.1 in
    omega (arith, few, ap (λ (t : Table). t.sectors) c.table_in.ensures)

pub returns-clause-text : goal.returns-clause-text
returns-clause-text c =
    let w = c.in_ok-read.ensures in
    c.table_sheet.ensures.text ∙ ap table_page c.table_in.ensures ∙ read_on c.args.file.now c.read_flat.new.cells w.0 w.1
