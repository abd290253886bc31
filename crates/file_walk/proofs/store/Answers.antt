-- A cell of x lies in its row of n cells, a cell of a column in its 40. Assumes nothing.
use Rattle.file_records.specs.Bodies.{entry_of}
use Rattle.file_walk.proofs.CellLaws.{store_flow, store_column}
use Rattle.file_walk.proofs.store.Goals as goal

pub returns-then-cell-lt-SECTORS : goal.returns-then-cell-lt-SECTORS
returns-then-cell-lt-SECTORS c =
    let a = c.args in
    λ es h. store_flow a.n c.requires.few (entry_of a.cell) c.requires.within es a.cells.now h c.if-cell-lt-SECTORS.true

pub returns-else-cell-lt-SECTORS : goal.returns-else-cell-lt-SECTORS
returns-else-cell-lt-SECTORS c =
    let a = c.args in
    λ es h. store_column a.n c.requires.few (entry_of a.cell) c.requires.within es a.cells.now h c.if-cell-lt-SECTORS.false
