-- The first column that fails, or that none does. Assumes nothing.
use native.Mathlib.Omega.{arith}
use borrow.Author.Tests.{ne_eqb}
use Rattle.model.specs.Numbers.{at, cell, transposed}
use Rattle.theory.proofs.Sums.{sum_done}
use Rattle.theory.proofs.Verdicts.{scan_failed_each, scan_passed}
use Rattle.table_balances.proofs.columns_balance.Goals as goal

pub returns-then-sum-table : goal.returns-then-sum-table
returns-then-sum-table c =
    let t = c.args.table.now in
    let l = c.loop-i in
    let j = c.loop-j.j in
    let whole = sum_done (transposed (at t.sectors t.flows.now) j) l.i t.sectors l.sum l.invariant.0 (omega arith) (omega arith) in
    let off = ne_eqb _ (cell t.production.now j) (rw whole at c.if-sum-table.true) in
    rw c.at.ensures (scan_failed_each c.loop-j.invariant (omega arith) off)

pub returns-after-loop-j : goal.returns-after-loop-j
returns-after-loop-j c = scan_passed c.loop-j.invariant (omega arith)
