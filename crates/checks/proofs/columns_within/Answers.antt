use Rattle.std.proofs.Common.{arith}
use Rattle.model.specs.Numbers.{at, transposed}
use Rattle.model.specs.Checks.{column_limit}
use Rattle.theory.proofs.Sums.{sum_over}
use Rattle.theory.proofs.Verdicts.{scan_failed_each, scan_passed}
use Rattle.checks.proofs.columns_within.Goals as goal

pub returns-then-sum-coefficient : goal.returns-then-sum-coefficient
returns-then-sum-coefficient c =
    let l = c.loop-i in
    let column = transposed (at c.args.n c.args.d.now) c.loop-j.j in
    let over = sum_over column l.i c.args.n l.sum column_limit l.invariant.0 (omega arith) (omega arith) in
    rw c.at.ensures (scan_failed_each c.loop-j.invariant (omega arith) over)

pub returns-after-loop-j : goal.returns-after-loop-j
returns-after-loop-j c = scan_passed c.loop-j.invariant (omega arith)
