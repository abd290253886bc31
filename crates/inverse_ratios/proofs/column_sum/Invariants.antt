-- `sum` is the sum of the first i cells.
use Rattle.std.proofs.Common.{◌≡◌}
use Rattle.model.specs.Numbers.{sum, transposed}
use Rattle.cells.specs.Sheets.{sheet_of}
use Rattle.inverse_ratios.proofs.column_sum.Given as goal

abbrev pub invariant-loop-i : goal.invariant-loop-i
invariant-loop-i l = l.sum ≡ sum l.i (transposed (sheet_of l.sheet) l.j)
