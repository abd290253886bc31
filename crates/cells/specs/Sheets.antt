-- A matrix as the functions are lent it.
use Rattle.model.specs.Numbers.{Sheet, at}
use Rattle.cells.specs.declared.matrix.Matrix.{Matrix}

-- its cells by row and column
abbrev pub sheet_of : Matrix → Sheet
sheet_of m = at m.sectors m.cells.now
