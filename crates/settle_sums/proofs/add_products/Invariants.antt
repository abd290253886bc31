-- The sums of the first k rows of the four are written.
use Rattle.std.proofs.Common.{◌+◌, ◌*◌}
use Rattle.model.specs.Numbers.{cell}
use Rattle.cells.specs.Sheets.{sheet_of}
use Rattle.settle_sums.specs.Sums.{Written}
use Rattle.settle_sums.proofs.add_products.Given as goal

abbrev pub invariant-loop-k : goal.invariant-loop-k
invariant-loop-k l = Written l.sums l.i l.k (λ c. cell l.fn.sums c + sheet_of l.d c l.j * l.increment) l.fn.sums
