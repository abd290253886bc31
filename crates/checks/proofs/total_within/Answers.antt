use Rattle.std.proofs.Common.{suc, arith}
use native.Mathlib.Nat.{lt-suc_self}
use Rattle.model.specs.Numbers.{cell}
use Rattle.model.specs.Checks.{production_limit}
use Rattle.theory.proofs.Sums.{sum_over}
use Rattle.theory.proofs.Verdicts.{scan_failed_each, scan_passed}
use Rattle.checks.proofs.total_within.Goals as goal

pub returns-then-total-amount : goal.returns-then-total-amount
returns-then-total-amount c =
    let l = c.loop-i in
    let over = sum_over (cell c.args.y.now) l.i (suc l.i) l.total production_limit l.invariant.0 (lt-suc_self l.i) (omega arith) in
    rw c.at.ensures (scan_failed_each l.invariant.2 (omega arith) over)

pub returns : goal.returns
returns c = scan_passed c.loop-i.invariant.2 (omega arith)
