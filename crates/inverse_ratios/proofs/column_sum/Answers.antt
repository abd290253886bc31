-- A column of small cells fits.
use Rattle.std.proofs.Common.{arith}
use Rattle.model.specs.Numbers.{transposed}
use Rattle.theory.proofs.Sums.{sum_room}
use Rattle.cells.specs.Sheets.{sheet_of}
use Rattle.inverse_ratios.proofs.Dispersion.{column_small}
use Rattle.inverse_ratios.proofs.column_sum.Goals as goal

pub overflow_add-sum : goal.overflow_add-sum
overflow_add-sum c =
    let a = c.args in
    let l = c.loop-i in
    omega (arith, c.at-sum.ensures, sum_room (transposed (sheet_of a.sheet.now) a.j) l.i a.sheet.now.sectors l.sum l.invariant (omega arith), column_small c.requires.dispersed a.j (omega arith))
