-- All sectors are in the total. Assumes nothing.
use native.Mathlib.Omega.{arith}
use Rattle.std.proofs.Common.{◌*◌, length}
use Rattle.model.specs.Numbers.{bit, cell}
use Rattle.model.specs.Aggregation.{group_total}
use Rattle.theory.proofs.Sums.{sum_done}
use Rattle.aggregate_totals.proofs.group_total.Goals as goal

pub returns : goal.returns
unfolding group_total
returns c =
    let a = c.args in
    sum_done (λ k. bit a.group k * cell a.column.now k) c.loop-i.i (length a.column.now) c.loop-i.total c.loop-i.invariant.0 (omega arith) (omega arith)
