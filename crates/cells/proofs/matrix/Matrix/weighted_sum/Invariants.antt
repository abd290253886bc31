use Rattle.std.proofs.Common.{◌≡◌}
use Rattle.model.specs.Numbers.{sum, cell}
use Rattle.model.specs.Rounds.{product}
use Rattle.cells.specs.Sheets.{sheet_of}
use Rattle.cells.proofs.matrix.Matrix.weighted_sum.Given as goal

-- the sum of the products so far
abbrev pub invariant-loop-j : goal.invariant-loop-j
invariant-loop-j l = l.sum ≡ sum l.j (product (sheet_of l.self) (cell l.amounts) l.i)
