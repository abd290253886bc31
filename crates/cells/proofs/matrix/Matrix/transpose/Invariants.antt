use Rattle.std.proofs.Common.{ℕ, ◌≡◌, ◌<◌}
use Rattle.model.specs.Numbers.{at}
use Rattle.cells.specs.Sheets.{sheet_of}
use Rattle.cells.proofs.matrix.Matrix.transpose.Given as goal

-- the columns so far are the rows of the matrix
abbrev pub invariant-loop-j : goal.invariant-loop-j
invariant-loop-j l = (i k : ℕ) → i < l.n → k < l.j → at l.n l.sheet i k ≡ sheet_of l.self k i
