-- To each of the four sums the first j products of its row are added.
use Rattle.std.proofs.Common.{◌+◌}
use Rattle.model.specs.Numbers.{cell, sum}
use Rattle.model.specs.Rounds.{product}
use Rattle.cells.specs.Sheets.{sheet_of}
use Rattle.settle_sums.specs.Sums.{Written}
use Rattle.settle_sums.proofs.add_block.Given as goal

abbrev pub invariant-loop-j : goal.invariant-loop-j
invariant-loop-j l = Written l.sums l.i 4 (λ c. cell l.fn.sums c + sum l.j (product (sheet_of l.d) (cell l.increments) c)) l.fn.sums
